-- What a line says of a refused token and of a form without a shape.
use Rattle.std.proofs.Common.{◌≡◌, ◌∙◌, ℕ, List, [], ◌∷◌, ◌++◌, length, get_or, map, Result, Ok, Err, OnOk, codes, decimal, ap, subst, arith}
use Rattle.def_term.specs.Tree.{Tree}
use Rattle.def_text.specs.Scripts.{SpellsTerms}
use Rattle.def_script.specs.Program.{Form}
use Rattle.def_script.specs.Rules.{Rule}
use Rattle.def_refusal.proofs.OneItem.{one_list}
use Rattle.def_refusal.specs.RefusedItems.{HasForms}
use Rattle.def_wording.specs.RuleTexts.{rule_reason_in, rule_reasons_text}
use Rattle.def_wording.specs.ShapeTexts.{shape_detail}
use Rattle.tn_term.specs.declared.term.Term.{Term}
use Rattle.tn_term.specs.Views.{tree_of}
use Rattle.tn_refusal.specs.Pieces.{SpellsFirst}
use Rattle.tn_refusal.specs.Details.{IsFormText, TellsCount, TellsRule, TellsShape}

pub first_tree : {A : Type 0} (xs : List (Term A)) (x : Term A) (t : Tree) → x ≡ get_or xs 0 x → map tree_of xs ≡ t ∷ [] → tree_of x ≡ t
first_tree [] x t is e = absurd (cc e)
first_tree (y ∷ ys) x t is e = let same : tree_of y ≡ t = cc e in ap tree_of is ∙ same

pub no_first : {A : Type 0} (xs : List (Term A)) (t : Tree) → length xs ≡ 0 → map tree_of xs ≡ t ∷ [] → ⊥
no_first [] t n e = cc e
no_first (x ∷ xs) t n e = absurd (omega (arith, n))

pub told_shape : {T E : Type 0} (done : Result T E) (bytes own : List ℕ) (n : ℕ) (o d : List ℕ) → IsFormText bytes n own → ((t : Tree) → SpellsTerms own (t ∷ []) → OnOk done (d ≡ o ++ shape_detail t)) → OnOk done (TellsShape bytes n o d)
told_shape (Ok v) bytes own n o d is says = λ ts later t s e. says t (subst (SpellsFirst own) e (is ts s))
told_shape (Err x) bytes own n o d is says = tt

pub told_under : {T E : Type 0} (done : Result T E) (P Q : Type 0) → (P → OnOk done Q) → OnOk done (P → Q)
told_under (Ok v) P Q f = f
told_under (Err x) P Q f = tt

pub told_count : {T E : Type 0} (done : Result T E) (bytes o d : List ℕ) → ((ts : List Tree) → SpellsTerms bytes ts → OnOk done (d ≡ o ++ codes ": there are " ++ decimal (length ts))) → OnOk done (TellsCount bytes o d)
told_count (Ok v) bytes o d says = says
told_count (Err x) bytes o d says = tt

pub told_rule : {T E : Type 0} (done : Result T E) (bytes : List ℕ) (r : Rule) (n : ℕ) (o d : List ℕ) (own : List Form) → HasForms bytes own → OnOk done (d ≡ o ++ rule_reasons_text (rule_reason_in own n r))
    → OnOk done (TellsRule bytes r n o d)
told_rule (Ok v) bytes r n o d own is says = λ fs h. says ∙ ap (λ gs. o ++ rule_reasons_text (rule_reason_in gs n r)) (one_list bytes own fs is h)
told_rule (Err x) bytes r n o d own is says = tt

-- the text of another description of the same
pub read_along : {T E X : Type 0} (done : Result T E) (o d : List ℕ) (text : X → List ℕ) (x y : X) → x ≡ y → OnOk done (d ≡ o ++ text x) → OnOk done (d ≡ o ++ text y)
read_along done o d text x y same h = subst (λ z. OnOk done (d ≡ o ++ text z)) same h
