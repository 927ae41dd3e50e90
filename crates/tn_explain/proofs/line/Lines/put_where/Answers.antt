use Rattle.tn_explain.proofs.EarlierLines.{where_done, where_refused}
use Rattle.tn_explain.proofs.line.Lines.put_where.Goals as goal

pub returns-then-evaluated-clause-ok : goal.returns-then-evaluated-clause-ok
returns-then-evaluated-clause-ok g c = where_done c.args.self.now.name.now c.args.evaluated c.args.why.now _ c.if-evaluated.true

pub returns-clause-ok : goal.returns-clause-ok
returns-clause-ok g c = where_refused c.args.self.now.name.now c.args.evaluated c.args.why.now _ _ c.if-evaluated.false c.in_ok-say.ensures.ok
