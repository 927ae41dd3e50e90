use Rattle.std.proofs.Common.{ap, subst}
use Rattle.std.specs.Option.{option_map}
use Rattle.def_session.specs.Commands.{command_done}
use Rattle.tn_term.specs.Views.{tree_of, alive_of}
use Rattle.tn_flags.specs.Views.{command_of}
use Rattle.tn_running_node.proofs.CommandPairs.{Replies, track_here, tracked_here, own_here, did_no_command, did_command}
use Rattle.tn_running_node.proofs.pair.SessionPair.obey.Goals as goal

pub returns-in_default-clause-ok : goal.returns-in_default-clause-ok
returns-in_default-clause-ok g c = λ o d fs h.
    let r = c.args.run.now in
    let old = c.args.self.now in
    let k = command_of c.args.command.now in
    let t = track_here o (alive_of r.alive) k old d h in
    did_no_command o r k old d h c.obey.new.self c.args.out.now c.none.result
    (subst (Replies o r k old d h c.obey.new.self) (ap (option_map tree_of) c.in_default.is) (c.in_ok-here.ensures o t fs (tracked_here o (alive_of r.alive) k old d h))) c.none.ensures.differs c.none.ensures.open_lines

pub returns-clause-ok : goal.returns-clause-ok
returns-clause-ok g c = λ o d fs h.
    let r = c.args.run.now in
    let old = c.args.self.now in
    let k = command_of c.args.command.now in
    let t = track_here o (alive_of r.alive) k old d h in
    let here = tree_of c.in-Some.here in
    let replied = subst (Replies o r k old d h c.obey.new.self) (ap (option_map tree_of) c.in-Some.is) (c.in_ok-here.ensures o t fs (tracked_here o (alive_of r.alive) k old d h)) in
    let there = c.in_ok-there.ensures o (record d { here = (command_done o d.here k).0 }) fs (own_here o (alive_of r.alive) k old d h c.obey.new.self here replied) replied.1.0 in
    did_command o r k old d h c.obey.new.self c.obey_there.new.self here (tree_of c.in_ok-there.there) c.in_ok-lines_here.lines_here c.in_ok-lines_there.lines_there c.args.out.now c.put_lines.new.out c.in_ok-kinds.kinds replied there
    c.in_ok-lines_here.ensures c.in_ok-lines_there.ensures c.in_ok-kinds.ensures.ok
