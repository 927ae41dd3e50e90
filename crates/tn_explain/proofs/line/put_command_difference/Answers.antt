use Rattle.std.proofs.Common.{[], sym, ap}
use Rattle.tn_explain.specs.CommandDifferences.{differences_seen}
use Rattle.tn_explain.specs.LineParts.{uncounted_lines}
use Rattle.tn_explain.proofs.LineTexts.{nothing, other}
use Rattle.tn_explain.proofs.line.put_command_difference.Goals as goal

pub returns-in-None-clause-ok : goal.returns-in-None-clause-ok
returns-in-None-clause-ok g c =
    let n = c.args.name.now in
    let o = c.args.out.now.items in
    other n [] _ o o (sym (ap (λ x. uncounted_lines (differences_seen x)) c.in-None.is)) (nothing n o)
