use Rattle.std.proofs.Common.{ap, sym, ◌∙◌}
use Rattle.def_fun.specs.Translation.{is_proper_tail}
use Rattle.tn_fun.specs.Trees.{fun_expr_seen}
use Rattle.tn_fun.proofs.TreeViews.{seen_parens}
use Rattle.tn_translation.proofs.tails.+tail.Goals as goal

pub returns-in-Parens : goal.returns-in-Parens
returns-in-Parens g t c = λ text.
    c.is_proper_tail.ensures text ∙ ap (λ x. is_proper_tail (fun_expr_seen text x)) c.deref.ensures
    ∙ sym (ap (λ x. is_proper_tail (fun_expr_seen text x)) c.in-Parens.is ∙ ap is_proper_tail (seen_parens text c.in-Parens.field-0 c.in-Parens.inner))
