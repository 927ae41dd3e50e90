use Rattle.tn_flags.specs.Views.{command_of}
use Rattle.tn_running_node.proofs.CommandMoves.{pairs_at_move, command_seen_each}
use Rattle.tn_running_node.proofs.comparison.Comparison.obey.Goals as goal

pub returns-clause-ok : goal.returns-clause-ok
returns-clause-ok g c = λ o l d fs h.
    let old = c.args.self.now in
    let begun = c.begin_move.new.self in
    let did = c.in_ok-kinds.ensures.ok o d.sessions fs (pairs_at_move o d c.args.pick old begun h c.begin_move.ensures) in
    command_seen_each o d c.args.pick old begun h c.begin_move.ensures l (command_of c.args.command.now) c.obey_each.new.pairs c.args.out.now c.obey_each.new.out c.in_ok-kinds.kinds did
