use Rattle.std.proofs.Common.{sym, ap}
use Rattle.tn_explain.specs.LineParts.{said_where}
use Rattle.tn_explain.proofs.LineTexts.{nothing, other}
use Rattle.tn_explain.proofs.line.Lines.say_where.Goals as goal

pub returns-else-holds-clause-ok : goal.returns-else-holds-clause-ok
returns-else-holds-clause-ok g c =
    let n = c.args.self.now.name.now in
    let o = c.args.out.now.items in
    other n _ (said_where c.args.holds c.args.text.now) o o (sym (ap (λ b. said_where b c.args.text.now) c.if-holds.false)) (nothing n o)
