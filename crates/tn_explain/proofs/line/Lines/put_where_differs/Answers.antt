use Rattle.std.proofs.Common.{[], sym, ap}
use Rattle.tn_difference.specs.Differences.{difference_seen}
use Rattle.tn_explain.specs.LineParts.{differs_where}
use Rattle.tn_explain.proofs.LineTexts.{nothing, other}
use Rattle.tn_explain.proofs.line.Lines.put_where_differs.Goals as goal

pub returns-else-holds-clause-ok : goal.returns-else-holds-clause-ok
returns-else-holds-clause-ok g c =
    let n = c.args.self.now.name.now in
    let o = c.args.out.now.items in
    other n [] _ o o (sym (ap (λ b. differs_where b (difference_seen c.args.difference)) c.if-holds.false)) (nothing n o)
