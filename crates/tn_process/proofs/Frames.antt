-- Frames, of which the code has the newest last.
use Rattle.std.proofs.Common.{◌≡◌, ℕ, ◌+◌, List, [], ◌∷◌, ◌++◌, length, map, Option, Some, None, option_to_list, reverse, ap, sym, ◌∙◌}
use Rattle.std.specs.Prelude.{MatchOption}
use Rattle.std.proofs.lemmas.List.{append-nil, map-append, nil_from_length, reverse-append, reverse-reverse}
use Rattle.def_node.specs.Process.{Frame, Process, with_frames}

-- lists that are the same from the end are the same
pub reverse_same : {X : Type 0} (xs ys : List X) → reverse xs ≡ reverse ys → xs ≡ ys
reverse_same xs ys e = sym (reverse-reverse xs) ∙ ap reverse e ∙ reverse-reverse ys

-- the newest frame comes off, or there is none
pub popped : {X : Type 0} (h : X → Frame) (q : Process) (xs ys : List X) (o : Option X) (n m : ℕ)
    → n ≡ length xs → xs ≡ ys ++ option_to_list o → MatchOption o ((n ≡ 0) × (m ≡ 0)) (λ _. m + 1 ≡ n)
    → MatchOption o ((with_frames q (reverse (map h ys)) ≡ with_frames q (reverse (map h xs))) × (reverse (map h xs) ≡ [])) (λ f. with_frames q (reverse (map h xs)) ≡ with_frames q (h f ∷ reverse (map h ys)))
popped h q xs ys None n m size items cases = (
  ap (λ zs. with_frames q (reverse (map h zs))) (sym (append-nil ys) ∙ sym items),
  ap (λ zs. reverse (map h zs)) (nil_from_length xs (sym size ∙ cases.0)),
)
popped h q xs ys (Some f) n m size items cases =
    ap (λ zs. with_frames q zs) (ap (λ zs. reverse (map h zs)) items ∙ ap reverse (map-append h ys (f ∷ [])) ∙ reverse-append (map h ys) (h f ∷ []))
