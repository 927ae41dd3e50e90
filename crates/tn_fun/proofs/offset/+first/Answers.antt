use Rattle.std.proofs.Common.{ap, sym, ◌∙◌}
use Rattle.def_fun.specs.Trees.{first_byte}
use Rattle.tn_fun.specs.Trees.{fun_expr_seen}
use Rattle.tn_fun.proofs.TreeViews.{seen_between}
use Rattle.tn_fun.proofs.offset.+first.Goals as goal

pub returns-in-Between : goal.returns-in-Between
returns-in-Between g t c = λ text.
    c.first_byte.ensures text ∙ ap (λ x. first_byte (fun_expr_seen text x)) c.deref.ensures
    ∙ sym (ap (λ x. first_byte (fun_expr_seen text x)) c.in-Between.is ∙ ap first_byte (seen_between text c.in-Between.field-0 c.in-Between.field-1 c.in-Between.left c.in-Between.field-3))
