-- Two texts of picks that were read of the same bytes.
use Rattle.std.proofs.Common.{◌≡◌, ◌∙◌, inl, inr, ℕ, List, [], ◌∷◌, Option, Some, None, IsSome, Result, IfOk, OnOk, sym, subst}
use Rattle.std.proofs.lemmas.List.{append_cancel_right}
use Rattle.std.specs.declared.vec.Vec.{Vec}
use Rattle.tn_run.specs.Ends.{TakesText}
use Rattle.tn_run.specs.declared.fault.RunFault.{RunFault}
use Rattle.tn_command.specs.PickTexts.{IsWithoutLineFeed}
use Rattle.complete_runs.proofs.Both.{both_if_ok}
use Rattle.complete_workers.proofs.SameEnds.{not_told, taken_is}

one_without : (text a b : List ℕ) → IsWithoutLineFeed text a → IsWithoutLineFeed text b → a ≡ b
one_without text a b (inl h) (inl i) = append_cancel_right a b (10 ∷ []) (sym h ∙ i)
one_without text a b (inl h) (inr i) = absurd (i.1 a h)
one_without text a b (inr h) (inl i) = absurd (h.1 b i)
one_without text a b (inr h) (inr i) = sym h.0 ∙ i.0

abbrev Took : (old new : Option (List ℕ)) → List ℕ → Type 0
Took old new bytes = (text : List ℕ) × TakesText old new text × IsWithoutLineFeed text bytes

same_took : (old other new new' : Option (List ℕ)) (a b : List ℕ) → old ≡ other → IsSome old → Took old new a → Took other new' b → (a ≡ b) × (new ≡ new')
same_took None other new new' a b e some h i = not_told some
same_took (Some xs) other new new' a b e some h i =
    let one = taken_is xs new h.0 h.1 in
    let two = taken_is xs new' i.0 (subst (λ o. TakesText o new' i.0) (sym e) i.1) in
    (one_without h.0 a b h.2 (subst (λ t. IsWithoutLineFeed t b) (two.0 ∙ sym one.0) i.2), one.1 ∙ sym two.1)

pub same_picks_text : {A : Type 0} (old other new new' : Option (List ℕ)) (r q : Result (Vec ℕ A) RunFault) → old ≡ other → IfOk r (λ v. Took old new v.items) → IfOk q (λ v. Took other new' v.items)
    → IsSome old → IfOk r (λ v. IfOk q (λ w. v.items ≡ w.items))
same_picks_text old other new new' r q e h i some =
    both_if_ok (λ v. Took old new v.items) (λ v. Took other new' v.items) (λ v w. v.items ≡ w.items) (λ v w k l. (same_took old other new new' v.items w.items e some k l).0) r q h i

pub same_picks_left : {A : Type 0} (old other new new' : Option (List ℕ)) (r q : Result (Vec ℕ A) RunFault) → old ≡ other → IfOk r (λ v. Took old new v.items) → IfOk q (λ v. Took other new' v.items)
    → IsSome old → OnOk r (OnOk q (new ≡ new'))
same_picks_left old other new new' r q e h i some =
    both_if_ok (λ v. Took old new v.items) (λ v. Took other new' v.items) (λ v w. new ≡ new') (λ v w k l. (same_took old other new new' v.items w.items e some k l).1) r q h i
