-- The text of lines, piece by piece and one after another.
use Rattle.std.proofs.Common.{◌⊎◌, inl, inr, ◌≡◌, ◌∙◌, ℕ, List, [], ◌∷◌, ◌++◌, refl, sym, ap, append_assoc, append-nil}
use Rattle.std.specs.Prelude.{Result, Ok, Err, OnOk}
use Rattle.tn_text.specs.Writes.{Grows}
use Rattle.def_term.specs.Names.{Name}
use Rattle.def_explain.specs.Accounts.{Line}
use Rattle.def_explain.specs.Texts.{clause_text}
use Rattle.def_explain.specs.Runs.{makes}
use Rattle.def_explain.specs.RunTexts.{entry_text, line_text}
use Rattle.tn_explain.specs.Lines.{lines_text, line_start}

-- no line
pub nothing : (n : Name) (o : List ℕ) → o ≡ o ++ lines_text n []
unfolding lines_text
nothing n o = sym (append-nil o)

pub lines-append : (n : Name) (ks ls : List Line) → lines_text n (ks ++ ls) ≡ lines_text n ks ++ lines_text n ls
unfolding lines_text
lines-append n [] ls = refl
lines-append n (k ∷ ks) ls =
    ap (λ t. entry_text (makes n k) ++ t) (lines-append n ks ls) ∙ sym (append_assoc (entry_text (makes n k)) (lines_text n ks) (lines_text n ls))

one-line : (n : Name) (l : Line) → lines_text n (l ∷ []) ≡ (line_start n ++ line_text l) ++ 10 ∷ []
unfolding lines_text
one-line n l = append-nil _

-- a line by its pieces
pub line : (n : Name) (l : Line) (o b c d : List ℕ) → b ≡ o ++ line_start n → c ≡ b ++ line_text l → d ≡ c ++ 10 ∷ [] → d ≡ o ++ lines_text n (l ∷ [])
line n l o b c d begun written ended =
    ended ∙ ap (λ x. x ++ 10 ∷ []) (written ∙ ap (λ x. x ++ line_text l) begun)
    ∙ (ap (λ x. x ++ 10 ∷ []) (append_assoc o (line_start n) (line_text l)) ∙ append_assoc o (line_start n ++ line_text l) (10 ∷ []))
    ∙ ap (λ x. o ++ x) (sym (one-line n l))

-- lines, and then others
pub more : (n : Name) (ks ls : List Line) (o b c : List ℕ) → b ≡ o ++ lines_text n ks → c ≡ b ++ lines_text n ls → c ≡ o ++ lines_text n (ks ++ ls)
more n ks ls o b c first second =
    second ∙ ap (λ x. x ++ lines_text n ls) first ∙ append_assoc o (lines_text n ks) (lines_text n ls) ∙ ap (λ x. o ++ x) (sym (lines-append n ks ls))

-- two pieces
pub both : (b c d x y : List ℕ) → c ≡ b ++ x → d ≡ c ++ y → d ≡ b ++ (x ++ y)
both b c d x y first second = second ∙ ap (λ l. l ++ y) first ∙ append_assoc b x y

pub grew : {a b : List ℕ} (x : List ℕ) → b ≡ a ++ x → Grows a b
grew x e = record { added = x; whole = e }

-- the pieces of a clause's line
pub clause_line : (k : ℕ) (verb rest b c d e : List ℕ) → c ≡ b ++ clause_text k [] → d ≡ c ++ verb → e ≡ d ++ rest → e ≡ b ++ clause_text k (verb ++ rest)
clause_line k verb rest b c d e first second third = third ∙ ap (λ x. x ++ rest) (second ∙ ap (λ x. x ++ verb) first) ∙ simp (append_assoc, append-nil)

-- what follows from what holds where a call answers Ok
pub on_ok : {T E : Type 0} (r : Result T E) (P Q : Type 0) → (P → Q) → OnOk r P → OnOk r Q
on_ok (Ok x) P Q f h = f h
on_ok (Err e) P Q f h = tt

-- other lines that are the same
pub other : (n : Name) (ks ls : List Line) (o b : List ℕ) → ks ≡ ls → b ≡ o ++ lines_text n ks → b ≡ o ++ lines_text n ls
other n ks ls o b same made = made ∙ ap (λ l. o ++ lines_text n l) same

-- what follows from each of eight, of which one holds
pub by_each : {A B C D E F G H : Type 0} (Q : Type 0) → (A → Q) → (B → Q) → (C → Q) → (D → Q) → (E → Q) → (F → Q) → (G → Q) → (H → Q)
    → A ⊎ (B ⊎ (C ⊎ (D ⊎ (E ⊎ (F ⊎ (G ⊎ H)))))) → Q
by_each Q a b c d e f g h (inl x) = a x
by_each Q a b c d e f g h (inr (inl x)) = b x
by_each Q a b c d e f g h (inr (inr (inl x))) = c x
by_each Q a b c d e f g h (inr (inr (inr (inl x)))) = d x
by_each Q a b c d e f g h (inr (inr (inr (inr (inl x))))) = e x
by_each Q a b c d e f g h (inr (inr (inr (inr (inr (inl x)))))) = f x
by_each Q a b c d e f g h (inr (inr (inr (inr (inr (inr (inl x))))))) = g x
by_each Q a b c d e f g h (inr (inr (inr (inr (inr (inr (inr x))))))) = h x

-- the same, of seven
pub by_seven : {A B C D E F G : Type 0} (Q : Type 0) → (A → Q) → (B → Q) → (C → Q) → (D → Q) → (E → Q) → (F → Q) → (G → Q) → A ⊎ (B ⊎ (C ⊎ (D ⊎ (E ⊎ (F ⊎ G))))) → Q
by_seven Q a b c d e f g (inl x) = a x
by_seven Q a b c d e f g (inr (inl x)) = b x
by_seven Q a b c d e f g (inr (inr (inl x))) = c x
by_seven Q a b c d e f g (inr (inr (inr (inl x)))) = d x
by_seven Q a b c d e f g (inr (inr (inr (inr (inl x))))) = e x
by_seven Q a b c d e f g (inr (inr (inr (inr (inr (inl x)))))) = f x
by_seven Q a b c d e f g (inr (inr (inr (inr (inr (inr x)))))) = g x
