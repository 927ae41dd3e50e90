use Rattle.std.proofs.Common.{◌∙◌, ◌++◌, ap}
use Rattle.tn_difference.specs.Differences.{difference_seen}
use Rattle.tn_explain.proofs.DifferenceLines.{same_text}
use Rattle.tn_explain.proofs.LineTexts.{on_ok}
use Rattle.tn_explain.proofs.line.Lines.put_where_steps.Goals as goal

pub returns-clause-ok : goal.returns-clause-ok
returns-clause-ok g c =
    on_ok c.put_where_differs.result _ _
    (λ made. made ∙ ap (λ l. c.args.out.now.items ++ l) (same_text c.args.self.now.name.now c.args.holds (difference_seen c.args.difference)))
    c.put_where_differs.ensures.ok
