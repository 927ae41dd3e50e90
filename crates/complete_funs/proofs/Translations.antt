-- Two answers of the translation of funs.
use Rattle.std.proofs.Common.{◌≡◌, ℕ, List, Option, Some, None, Result, Ok, Err, IfOk, refl, ap, sym, ◌∙◌}
use Rattle.def_term.specs.Tree.{Tree}
use Rattle.def_term.specs.Text.{w}
use Rattle.def_fun.specs.Refusals.{FunRefusal, OrRefusal}
use Rattle.tn_term.specs.Views.{tree_of}
use Rattle.tn_translation.specs.declared.fault.FunFault.{FunFault}
use Rattle.tn_translation.specs.declared.spec.FunSpec.{FunSpec}
use Rattle.tn_translation.specs.Faults.{fun_fault_seen, RefusedBy, GivesFun}
use Rattle.tn_translation.specs.Specifications.{spec_tree}
use Rattle.tn_translation.specs.AnswerViews.{RefusalIs}
use Rattle.complete_funs.specs.Answers.{AreSameRefusals}
use Rattle.complete_funs.specs.SpecAnswers.{AreSpecsAlike, AreRefusalsAlike}

same_tree : (r : OrRefusal Tree) (t u : Tree) → r ≡ Ok t → r ≡ Ok u → t ≡ u
same_tree r t u h k = let same : ◌≡◌ {A = OrRefusal Tree} (Ok t) (Ok u) = sym h ∙ k in cc

same_refusal : (r : OrRefusal Tree) (p q : FunRefusal) → r ≡ Err p → r ≡ Err q → p ≡ q
same_refusal r p q h k = let same : ◌≡◌ {A = OrRefusal Tree} (Err p) (Err q) = sym h ∙ k in cc

never_both : {P : Type 0} (r : OrRefusal Tree) (t : Tree) (q : FunRefusal) → r ≡ Ok t → r ≡ Err q → P
never_both r t q h k = absurd (let same : ◌≡◌ {A = OrRefusal Tree} (Ok t) (Err q) = sym h ∙ k in cc)

or_memory : (r : OrRefusal Tree) (t : Tree) (o : Option FunRefusal) → r ≡ Ok t → RefusedBy o r → o ≡ None
or_memory r t None h k = refl
or_memory r t (Some q) h k = never_both r t q h k

same_refusals : (r : OrRefusal Tree) (o p : Option FunRefusal) → RefusedBy o r → RefusedBy p r → AreSameRefusals o p
same_refusals r None p h k = tt
same_refusals r (Some x) None h k = tt
same_refusals r (Some x) (Some y) h k = same_refusal r x y h k

pub specs_alike : {A : Type 0} (text : List ℕ) (r : OrRefusal Tree) (a b : Result (FunSpec A) FunFault) → GivesFun spec_tree text a r → GivesFun spec_tree text b r
    → IfOk a (λ s. s.text.items ≡ w (tree_of s.term)) → IfOk b (λ s. s.text.items ≡ w (tree_of s.term)) → AreSpecsAlike text a b
specs_alike text r (Ok s) (Ok t) h k i j = let same = same_tree r (tree_of s.term) (tree_of t.term) h k in (same, i ∙ ap w same ∙ sym j)
specs_alike text r (Ok s) (Err f) h k i j = or_memory r (tree_of s.term) (fun_fault_seen text f) h k
specs_alike text r (Err f) (Ok s) h k i j = or_memory r (tree_of s.term) (fun_fault_seen text f) k h
specs_alike text r (Err f) (Err g) h k i j = same_refusals r (fun_fault_seen text f) (fun_fault_seen text g) h k

pub refusals_alike : (text : List ℕ) (r : OrRefusal Tree) (o p : Option FunFault) → RefusalIs text o r → RefusalIs text p r → AreRefusalsAlike text o p
refusals_alike text r None None h k = tt
refusals_alike text r None (Some g) h k = never_both r h.0 k.0 h.1 k.2
refusals_alike text r (Some f) None h k = never_both r k.0 h.0 k.1 h.2
refusals_alike text r (Some f) (Some g) h k = h.1 ∙ ap (λ x. Some x) (same_refusal r h.0 k.0 h.2 k.2) ∙ sym k.1
