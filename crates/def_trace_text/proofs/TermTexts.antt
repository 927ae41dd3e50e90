-- The text of the term of a line.
use Rattle.std.proofs.Common.{◌≡◌, ◌≢◌, ◌∙◌, ◌⊎◌, inl, inr, ℕ, ◌-◌, ◌==◌, Bool, true, false, ◌&&◌, List, [], ◌∷◌, ◌++◌, length, take, refl, ap, sym, subst, arith, append_assoc, length-append}
use Rattle.std.specs.Prelude.{slice_index, if◌then◌else◌}
use Rattle.std.proofs.lemmas.List.{get_or_push}
use Rattle.def_text.specs.Tokens.{is_blank, all_are}
use Rattle.def_trace_text.specs.Lines.{EndsTerm, IsTermText, without_blanks, term_text}
use Rattle.def_trace_text.proofs.TextLines.{last_byte}

-- the last byte is no blank, or there is none
abbrev pub EndsContent : List ℕ → Type 0
EndsContent text = (text ≡ []) ⊎ ((front : List ℕ) × (last : ℕ) × (text ≡ front ++ last ∷ []) × (is_blank last ≡ false))

-- the line is its content, and then blanks
pub record IsContentOf (line text : List ℕ) : Type 0 where
  pub blanks : List ℕ
  pub split : line ≡ text ++ blanks
  pub blank : all_are is_blank blanks ≡ true
  pub ends : EndsContent text

not_first : (a b : Bool) → a && b ≡ false → b ≡ true → a ≡ false
not_first true b h e = absurd (cc)
not_first false b h e = refl

one_more : (b : ℕ) (bs text : List ℕ) → all_are is_blank (b ∷ bs) ≡ false → (r : IsContentOf bs text) → EndsContent text → EndsContent (b ∷ text)
one_more b bs text e r (inl nil) =
    let same : bs ≡ r.blanks = subst (λ t. bs ≡ t ++ r.blanks) nil r.split in
    let all : all_are is_blank bs ≡ true = subst (λ t. all_are is_blank t ≡ true) (sym same) r.blank in
    inr ([], b, ap (λ t. b ∷ t) nil, not_first (is_blank b) (all_are is_blank bs) e all)
one_more b bs text e r (inr (front, last, is, content)) = inr (b ∷ front, last, ap (λ t. b ∷ t) is, content)

one_byte : (c : Bool) (b : ℕ) (bs text : List ℕ) → all_are is_blank (b ∷ bs) ≡ c → IsContentOf bs text → IsContentOf (b ∷ bs) (if c then [] else b ∷ text)
one_byte true b bs text e r = record { blanks = b ∷ bs; split = refl; blank = e; ends = inl refl }
one_byte false b bs text e r = record { blanks = r.blanks; split = ap (λ t. b ∷ t) r.split; blank = r.blank; ends = one_more b bs text e r r.ends }

pub content_is : (line : List ℕ) → IsContentOf line (without_blanks line)
content_is [] = record { blanks = []; split = refl; blank = refl; ends = inl refl }
content_is (b ∷ bs) = one_byte (all_are is_blank (b ∷ bs)) b bs (without_blanks bs) refl (content_is bs)

-- the last byte by its place
last_place : (front : List ℕ) (last : ℕ) → slice_index (front ++ last ∷ []) (length (front ++ last ∷ []) - 1) ≡ last
last_place front last = get_or_push front last 0 (length (front ++ last ∷ []) - 1) (omega (arith, length-append front (last ∷ [])))

differs : (x : ℕ) → (x == 46) ≡ false → x ≢ 46
differs x e h = let is : (46 == 46) ≡ false = subst (λ y. (y == 46) ≡ false) h e in cc

ends_term : (text : List ℕ) → (slice_index text (length text - 1) == 46) ≡ false → EndsContent text → EndsTerm text
ends_term text e (inl nil) = inl nil
ends_term text e (inr (front, last, is, content)) =
    let at : slice_index text (length text - 1) ≡ last = ap (λ t. slice_index t (length t - 1)) is ∙ last_place front last in
    inr (front, last, is, content, differs last (subst (λ x. (x == 46) ≡ false) at e))

by_stop : (c : Bool) (line text : List ℕ) → (slice_index text (length text - 1) == 46) ≡ c → IsContentOf line text → IsTermText line (if c then take (length text - 1) text else text)
by_stop true line text e r = record {
  stop = 46 ∷ [];
  blanks = r.blanks;
  split = r.split ∙ ap (λ t. t ++ r.blanks) (last_byte 46 text (omega arith) e) ∙ append_assoc (take (length text - 1) text) (46 ∷ []) r.blanks;
  blank = r.blank;
  ends = inl refl;
}
by_stop false line text e r = record { stop = []; blanks = r.blanks; split = r.split; blank = r.blank; ends = inr (refl, ends_term text e r.ends) }

pub term_text_is : (line : List ℕ) → IsTermText line (term_text line)
term_text_is line = by_stop (slice_index (without_blanks line) (length (without_blanks line) - 1) == 46) line (without_blanks line) refl (content_is line)
