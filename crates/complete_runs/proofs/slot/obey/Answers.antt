use Rattle.tn_term.specs.Views.{alive_of}
use Rattle.tn_flags.specs.Views.{command_of}
use Rattle.complete_runs.proofs.SameSlots.{both_obeyed, same_replies}
use Rattle.complete_runs.proofs.slot.obey.Goals as goal

pub returns-clause-reply : goal.returns-clause-reply
returns-clause-reply g c =
    let P = c.requires.1.1 in
    same_replies g.K.MessageSink.keeps g.at.0 (alive_of c.args.living) g.at.1 (command_of c.args.command.now) _ _ _ _
    (c.obey-first.ensures g.at.0 g.at.1 P.0 P.1.0) (c.obey-second.ensures g.at.0 g.at.1 P.0 P.1.1)

pub returns-clause-tracked : goal.returns-clause-tracked
returns-clause-tracked g c =
    let P = c.requires.1.1 in
    both_obeyed g.K.MessageSink.keeps g.at.0 (alive_of c.args.living) g.at.1 (command_of c.args.command.now) _ _ _ _
    (c.obey-first.ensures g.at.0 g.at.1 P.0 P.1.0) (c.obey-second.ensures g.at.0 g.at.1 P.0 P.1.1)
