use Rattle.std.proofs.Common.{rules}
use Rattle.tn_running_node.specs.Views.{lines_seen}
use Rattle.tn_running_node.proofs.CommonLines.{puts_where}
use Rattle.tn_running_node.proofs.lines.put_lines.Goals as goal

pub returns-clause-ok : goal.returns-clause-ok
returns-clause-ok g c =
    puts_where c.args.name.now c.args.was_determined c.args.is_determined (lines_seen c.args.here.now) (lines_seen c.args.there.now) c.args.out.now c.put_from.new.out c.put_from-2.new.out c.common_count-same.result _
    c.if-not-was_determined.false c.if-not-is_determined.false c.common_count-same.ensures c.in_ok-put_from.ensures.ok c.in_ok-put_from-2.ensures.ok (search rules) c.none-kinds.ensures.open_lines
