use Rattle.std.proofs.Common.{◌∙◌, ◌++◌, [], ◌∷◌, sym, ap, append_assoc}
use Rattle.def_explain.specs.Differences.{on_node}
use Rattle.tn_text.proofs.Growth.{grows_on}
use Rattle.tn_difference.specs.Differences.{difference_seen, difference_line_where}
use Rattle.tn_verdict.proofs.Pieces.{grown_by}
use Rattle.tn_verdict.proofs.spec_test.put_where_differs.Goals as goal

pub returns-clause-ok : goal.returns-clause-ok
returns-clause-ok g c =
    let o = c.args.out.now.items in
    let x = difference_seen c.args.difference in
    c.in_ok-push.ensures.items ∙ ap (λ l. l ++ 10 ∷ []) c.in_ok-put_difference.ensures.ok ∙ append_assoc o (on_node x) (10 ∷ [])
    ∙ ap (λ b. o ++ difference_line_where b x) (sym c.if-not-differs.false)

pub returns-clause-grows : goal.returns-clause-grows
returns-clause-grows g c = grows_on c.put_difference.ensures.grows (grown_by _ (10 ∷ []) _ c.in_ok-push.ensures.items)
