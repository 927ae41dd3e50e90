use Rattle.std.proofs.Common.{◌≡◌, List, ◌++◌, drop, Ok}
use Rattle.def_fun.specs.Refusals.{then_fun}
use Rattle.def_fun.specs.Translation.{TranslatedExpr}
use Rattle.tn_fun.specs.Trees.{fun_exprs_seen}
use Rattle.tn_translation.specs.Scopes.{each_translated_in, text_of}
use Rattle.tn_translation.specs.Values.{AreElements}
use Rattle.tn_translation.proofs.expr.+expr.Given as goal

abbrev pub invariant-exprs_translated-loop-item : goal.invariant-exprs_translated-loop-item
invariant-exprs_translated-loop-item g l =
    (done : List TranslatedExpr)
    × (each_translated_in l.scope (fun_exprs_seen (text_of l.scope) l.items.items) ≡ then_fun (each_translated_in l.scope (fun_exprs_seen (text_of l.scope) (drop l.item-index l.item-items))) (λ xs. Ok (done ++ xs)))
    × AreElements l.elements done
