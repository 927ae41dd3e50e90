-- The lines of a text, with the messages of `dbg` in one line each.
use Rattle.std.proofs.Common.{◌≡◌, ◌∙◌, ℕ, suc, ◌==◌, Bool, true, false, List, [], ◌∷◌, ◌++◌, length, refl, ap, sym, subst, rules}
use Rattle.std.specs.List.{All}
use Rattle.std.proofs.lemmas.List.Elements.{All-head, All-tail}
use Rattle.def_trace_text.specs.Lines.{trace_text_lines, is_passed_over}
use Rattle.def_trace_text.specs.DbgLines.{is_dbg_line, further_text, with_further, is_inside_after, whole_lines, whole_text_lines}

-- ---- one line

-- a line of `dbg` stays one when others go on with it
dbg_stays : (line more : List ℕ) → is_dbg_line line ≡ true → is_dbg_line (line ++ more) ≡ true
dbg_stays [] more e = absurd (cc)
dbg_stays (b ∷ bs) more e = e

some_bytes : (n : ℕ) → (0 == suc n) ≡ false
some_bytes n = search rules

-- it is not passed over
pub dbg_is_content : (line : List ℕ) → is_dbg_line line ≡ true → is_passed_over line ≡ false
dbg_is_content [] e = absurd (cc)
dbg_is_content (b ∷ bs) e = let is : b ≡ 40 = search rules in subst (λ c. is_passed_over (c ∷ bs) ≡ false) (sym is) (some_bytes (length bs))

further_is : (line : List ℕ) (next : List (List ℕ)) → is_dbg_line line ≡ true → with_further line next ≡ line ++ further_text next
further_is line next e = rw e refl

pub passed_alike : (line : List ℕ) (next : List (List ℕ)) → is_passed_over (with_further line next) ≡ is_passed_over line
passed_alike line next = by_kind (is_dbg_line line) refl
  where
    by_kind : (c : Bool) → is_dbg_line line ≡ c → is_passed_over (with_further line next) ≡ is_passed_over line
    by_kind true e = ap is_passed_over (further_is line next e) ∙ dbg_is_content (line ++ further_text next) (dbg_stays line (further_text next) e) ∙ sym (dbg_is_content line e)
    by_kind false e = rw e refl

-- ---- as many

as_many : (inside : Bool) (lines : List (List ℕ)) → length (whole_lines inside lines) ≡ length lines
as_many inside [] = refl
as_many inside (line ∷ next) = ap (λ n. suc n) (as_many (is_inside_after inside line) next)

pub whole_lines_count : (text : List ℕ) → length (whole_text_lines text) ≡ length (trace_text_lines text)
whole_lines_count text = as_many false (trace_text_lines text)

-- ---- no line of `dbg`

abbrev IsOther : List ℕ → Type 0
IsOther line = is_dbg_line line ≡ false

unchanged : (lines : List (List ℕ)) → All IsOther lines → whole_lines false lines ≡ lines
unchanged [] h = refl
unchanged (line ∷ next) h =
    let e : is_dbg_line line ≡ false = All-head IsOther line next h in
    rw e (ap (λ ls. line ∷ ls) (unchanged next (All-tail IsOther line next h)))

pub other_lines : (text : List ℕ) → All (λ line. is_dbg_line line ≡ false) (trace_text_lines text) → whole_text_lines text ≡ trace_text_lines text
other_lines text h = unchanged (trace_text_lines text) h
