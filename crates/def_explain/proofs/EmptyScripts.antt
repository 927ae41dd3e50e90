-- A text of blanks and comments has no token, and another has one.
use Rattle.std.proofs.Common.{◌≡◌, ◌∙◌, ℕ, ◌+◌, ◌==◌, Bool, true, false, not, ◌&&◌, List, [], ◌∷◌, drop, refl, sym, ap, add-one, if◌then◌else◌}
use Rattle.def_text.specs.Tokens.{is_blank, gap_len}
use Rattle.def_explain.specs.EmptyScripts.{is_gap}
use Rattle.def_explain.specs.RemarkLaws.{EmptyScriptIsGap}

-- one byte more of the gap
one_more : (n b : ℕ) (bs : List ℕ) → drop (n + 1) (b ∷ bs) ≡ drop n bs
one_more n b bs = ap (λ k. drop k (b ∷ bs)) (add-one n)

gap_by : (b : ℕ) (bs : List ℕ) (c d : Bool) → ((inside : Bool) → is_gap inside bs ≡ true → drop (gap_len inside bs) bs ≡ [])
    → (if c then is_gap true bs else (d && is_gap false bs)) ≡ true → drop (if c then gap_len true bs + 1 else (if d then gap_len false bs + 1 else 0)) (b ∷ bs) ≡ []
gap_by b bs true d again h = one_more (gap_len true bs) b bs ∙ again true h
gap_by b bs false true again h = one_more (gap_len false bs) b bs ∙ again false h
gap_by b bs false false again h = absurd (cc)

gap_is : (inside : Bool) (bytes : List ℕ) → is_gap inside bytes ≡ true → drop (gap_len inside bytes) bytes ≡ []
gap_is inside [] h = refl
gap_is true (b ∷ bs) h = one_more (gap_len (not (b == 10)) bs) b bs ∙ gap_is (not (b == 10)) bs h
gap_is false (b ∷ bs) h = gap_by b bs (b == 37) (is_blank b) (λ inside. gap_is inside bs) h

is_gap_by : (b : ℕ) (bs : List ℕ) (c d : Bool) → ((inside : Bool) → drop (gap_len inside bs) bs ≡ [] → is_gap inside bs ≡ true)
    → drop (if c then gap_len true bs + 1 else (if d then gap_len false bs + 1 else 0)) (b ∷ bs) ≡ [] → (if c then is_gap true bs else (d && is_gap false bs)) ≡ true
is_gap_by b bs true d again h = again true (sym (one_more (gap_len true bs) b bs) ∙ h)
is_gap_by b bs false true again h = again false (sym (one_more (gap_len false bs) b bs) ∙ h)
is_gap_by b bs false false again h = absurd (cc)

is_gap_of : (inside : Bool) (bytes : List ℕ) → drop (gap_len inside bytes) bytes ≡ [] → is_gap inside bytes ≡ true
is_gap_of inside [] h = refl
is_gap_of true (b ∷ bs) h = is_gap_of (not (b == 10)) bs (sym (one_more (gap_len (not (b == 10)) bs) b bs) ∙ h)
is_gap_of false (b ∷ bs) h = is_gap_by b bs (b == 37) (is_blank b) (λ inside. is_gap_of inside bs) h

pub empty_script_is_gap : EmptyScriptIsGap
empty_script_is_gap bytes = (gap_is false bytes, is_gap_of false bytes)
