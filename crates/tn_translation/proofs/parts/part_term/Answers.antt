use Rattle.std.proofs.Common.{sym, subst}
use Rattle.def_fun.specs.Trees.{first_byte}
use Rattle.def_fun.specs.Translation.{within_depth}
use Rattle.tn_fun.specs.Trees.{fun_expr_seen}
use Rattle.tn_term.specs.Views.{tree_of}
use Rattle.tn_translation.specs.Faults.{GivesFun}
use Rattle.tn_translation.specs.Scopes.{text_of, translated_in}
use Rattle.tn_translation.specs.Values.{translated_seen}
use Rattle.tn_translation.proofs.Steps.{then_value}
use Rattle.tn_translation.proofs.parts.part_term.Goals as goal

pub returns : goal.returns
returns g c =
    let s = c.args.scope.now in
    let text = text_of s in
    let e = fun_expr_seen text c.args.expr.now in
    let x = translated_seen c.in_ok-translated.translated in
    subst (GivesFun tree_of text c.within_depth.result) (sym (then_value (translated_in s e) (λ y. within_depth 29 (first_byte e) y.becomes) x c.in_ok-translated.ensures))
    (subst (λ at. GivesFun tree_of text c.within_depth.result (within_depth 29 at x.becomes)) (c.first_byte.ensures text) (c.within_depth.ensures text))
