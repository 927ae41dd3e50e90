-- A line of `dbg` spells no term.
use Rattle.std.proofs.Common.{◌≡◌, inl, inr, ℕ, ◌-◌, suc, ◌==◌, Bool, true, false, List, [], ◌∷◌, ◌++◌, length, take, refl, ap, sym, subst, arith, rules}
use Rattle.std.specs.Prelude.{slice_index, if◌then◌else◌}
use Rattle.def_term.specs.Tree.{Tree, int, atom, pid, tuple, list}
use Rattle.def_text.specs.Tokens as text
use Rattle.def_text.specs.Tokens.{Token, TokenSpan, Tokens, IsToken, HasNoToken, Stands}
use Rattle.def_text.specs.Grammar.{Derives}
use Rattle.def_text.specs.Spelling.{Spells, tokens_of}
use Rattle.def_text.proofs.TokenComplete.{none_there}
use Rattle.def_trace_text.specs.Lines.{without_blanks, without_end, term_text}
use Rattle.def_trace_text.specs.DbgLines.{is_dbg_line}

no_token : (y : List ℕ) → HasNoToken (40 ∷ y)
no_token y = none_there (40 ∷ y) refl

-- what is at the front of such bytes is no token
only_bad : (y u rest : List ℕ) (t : Token) → 40 ∷ y ≡ u ++ rest → Stands u rest t → t ≡ text.bad
only_bad y u rest text.open_brace e s = absurd (no_token y u rest text.open_brace e s)
only_bad y u rest text.close_brace e s = absurd (no_token y u rest text.close_brace e s)
only_bad y u rest text.open_bracket e s = absurd (no_token y u rest text.open_bracket e s)
only_bad y u rest text.close_bracket e s = absurd (no_token y u rest text.close_bracket e s)
only_bad y u rest text.comma e s = absurd (no_token y u rest text.comma e s)
only_bad y u rest text.stop e s = absurd (no_token y u rest text.stop e s)
only_bad y u rest (text.integer n) e s = absurd (no_token y u rest (text.integer n) e s)
only_bad y u rest (text.atom n) e s = absurd (no_token y u rest (text.atom n) e s)
only_bad y u rest (text.characters n) e s = absurd (no_token y u rest (text.characters n) e s)
only_bad y u rest (text.pid n) e s = absurd (no_token y u rest (text.pid n) e s)
only_bad y u rest text.bad e s = refl

-- no term begins so
bad_first : (ts : List Token) (t : Tree) → Derives (text.bad ∷ ts) t → ⊥
bad_first ts (int n) h = cc
bad_first ts (atom s) h = cc
bad_first ts (pid n) h = cc
bad_first ts (tuple us) (inner, e, h) = cc
bad_first ts (list us) (inl (inner, e, h)) = cc
bad_first ts (list us) (inr (s, e, h)) = cc

none_derives : (t : Tree) → Derives [] t → ⊥
none_derives (int n) h = cc
none_derives (atom s) h = cc
none_derives (pid n) h = cc
none_derives (tuple us) (inner, e, h) = cc
none_derives (list us) (inl (inner, e, h)) = cc
none_derives (list us) (inr (s, e, h)) = cc

tokens_derive_none : (y : List ℕ) (xs : List TokenSpan) (t : Tree) → Tokens (40 ∷ y) xs → Derives (tokens_of xs) t → ⊥
tokens_derive_none y [] t h d = none_derives t d
tokens_derive_none y (x ∷ xs) t (u, rest, next, more) d =
    bad_first (tokens_of xs) t (subst (λ k. Derives (k ∷ tokens_of xs) t) (only_bad y u rest x.token next.split next.stands) d)

spells_none : (y : List ℕ) (t : Tree) → Spells (40 ∷ y) t → ⊥
spells_none y t s = tokens_derive_none y s.tokens t s.are s.derives

-- ---- the text of the line as a term

abbrev BeginsSo : List ℕ → Type 0
BeginsSo text = (y : List ℕ) × (text ≡ 40 ∷ y)

some_taken : (n : ℕ) (z : ℕ) (zs : List ℕ) → n ≡ length zs → BeginsSo (take (suc n) (40 ∷ z ∷ zs))
some_taken n z zs e = (take n (z ∷ zs), refl)

by_end : (c : Bool) (z : ℕ) (zs : List ℕ) → BeginsSo (if c then take (length (40 ∷ z ∷ zs) - 1) (40 ∷ z ∷ zs) else 40 ∷ z ∷ zs)
by_end true z zs =
    let n : length (40 ∷ z ∷ zs) - 1 ≡ suc (length zs) = omega arith in
    subst (λ k. BeginsSo (take k (40 ∷ z ∷ zs))) (sym n) (some_taken (length zs) z zs refl)
by_end false z zs = (z ∷ zs, refl)

end_gone : (x : List ℕ) → BeginsSo (without_end 46 (40 ∷ x))
end_gone [] = ([], refl)
end_gone (z ∷ zs) = by_end (slice_index (40 ∷ z ∷ zs) (length (40 ∷ z ∷ zs) - 1) == 46) z zs

begins_so : (line : List ℕ) → is_dbg_line line ≡ true → BeginsSo line
begins_so [] e = cc
begins_so (b ∷ bs) e = let is : b ≡ 40 = search rules in (bs, ap (λ c. c ∷ bs) is)

text_begins : (line y : List ℕ) → line ≡ 40 ∷ y → BeginsSo (term_text line)
text_begins line y e = subst (λ l. BeginsSo (term_text l)) (sym e) (end_gone (without_blanks y))

spells : (text : List ℕ) (t : Tree) → BeginsSo text → Spells text t → ⊥
spells text t (y, e) s = spells_none y t (subst (λ b. Spells b t) e s)

pub dbg_line_is_no_term : (line : List ℕ) (t : Tree) → is_dbg_line line ≡ true → Spells (term_text line) t → ⊥
dbg_line_is_no_term line t h s =
    let (y, e) = begins_so line h in
    spells (term_text line) t (text_begins line y e) s
