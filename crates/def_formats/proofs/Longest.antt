-- The greatest message is as long as any.
use Rattle.std.proofs.Common.{◌≡◌, ◌∙◌, ◌⊎◌, inl, inr, ℕ, suc, ◌+◌, ◌≤◌, nat_lt, Bool, true, false, if◌then◌else◌, List, [], ◌∷◌, All, length, Some, refl, sym, ap, arith}
use Rattle.std.specs.Prelude.{slice_get}
use Rattle.std.proofs.lemmas.Bool.{ltb-true, ltb-false}
use Rattle.std.proofs.lemmas.List.Elements.{All-nil, All-cons}
use Rattle.def_formats.specs.Summaries.{NumberedLine, longest_from}
use Rattle.def_formats.specs.Laws.{LongestIsLongest}

-- what is chosen of these, which are numbered from n, and of the best so far
record IsChoice (n : ℕ) (best : NumberedLine) (lines : List (List ℕ)) (m : NumberedLine) : Type 0 where
  no_shorter : length best.line ≤ length m.line
  longest_of : All (λ l. length l ≤ length m.line) lines
  which : (m ≡ best) ⊎ ((k : ℕ) × (slice_get lines k ≡ Some m.line) × (m.number ≡ n + k))

abbrev here : ℕ → List ℕ → NumberedLine
here n l = record { number = n; line = l }

choose : (n : ℕ) (best : NumberedLine) (l : List ℕ) (ls : List (List ℕ)) (m : NumberedLine) (longer : Bool) → nat_lt (length best.line) (length l) ≡ longer
    → IsChoice (suc n) (if longer then here n l else best) ls m → IsChoice n best (l ∷ ls) m
choose n best l ls m true is h =
    let more = ltb-true (length best.line) (length l) is in
    let own : length l ≤ length m.line = h.no_shorter in
    record {
      no_shorter = omega (arith, more, own);
      longest_of = All-cons (λ x. length x ≤ length m.line) l ls own h.longest_of;
      which = elim h.which [
        | inl same ↦ inr (0, ap (λ (x : NumberedLine). Some x.line) (sym same), ap (λ (x : NumberedLine). x.number) same ∙ omega arith)
        | inr there ↦ inr (suc there.0, there.1, there.2 ∙ omega arith)
      ];
    }
choose n best l ls m false is h =
    let most = ltb-false (length best.line) (length l) is in
    let own : length best.line ≤ length m.line = h.no_shorter in
    record {
      no_shorter = own;
      longest_of = All-cons (λ x. length x ≤ length m.line) l ls (omega (arith, most, own)) h.longest_of;
      which = elim h.which [
        | inl same ↦ inl same
        | inr there ↦ inr (suc there.0, there.1, there.2 ∙ omega arith)
      ];
    }

choice : (n : ℕ) (best : NumberedLine) (lines : List (List ℕ)) → IsChoice n best lines (longest_from n best lines)
choice n best [] = record { no_shorter = omega arith; longest_of = All-nil (λ l. length l ≤ length best.line); which = inl refl }
choice n best (l ∷ ls) =
    choose n best l ls _ (nat_lt (length best.line) (length l)) refl (choice (suc n) (if nat_lt (length best.line) (length l) then here n l else best) ls)

pub longest_is_longest : LongestIsLongest
longest_is_longest lines =
    let h = choice 1 (here 0 []) lines in
    record {
      longest = h.longest_of;
      there = elim h.which [
        | inl same ↦ inl (ap (λ (x : NumberedLine). x.number) same, ap (λ (x : NumberedLine). x.line) same)
        | inr there ↦ inr (ap (slice_get lines) (omega (arith, there.2)) ∙ there.1)
      ];
    }
