use Rattle.std.proofs.Common.{◌≡◌, ◌++◌}
use Rattle.tn_spec.specs.Names.{position_seen}
use Rattle.tn_spec.specs.Views.{dialect_of}
use Rattle.tn_fun_text.specs.Terms.{terms_from}
use Rattle.tn_fun_text.specs.Texts.{items_text}
use Rattle.tn_fun_text.specs.ExprTexts.{items_at}
use Rattle.tn_fun_text.proofs.expr_text.+text.Given as goal

abbrev pub invariant-put_items-loop-i : goal.invariant-put_items-loop-i
invariant-put_items-loop-i g l =
    l.out.items ++ items_text (dialect_of l.scope.dialect) (position_seen l.scope.part) l.between l.keeps (terms_from l.i l.terms) ≡ l.fn.out.items ++ items_at l.scope l.fn.keeps l.terms l.from
