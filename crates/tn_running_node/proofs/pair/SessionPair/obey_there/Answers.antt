use Rattle.std.proofs.Common.{refl, ap, subst}
use Rattle.std.specs.Option.{option_map}
use Rattle.tn_term.specs.Views.{tree_of, alive_of}
use Rattle.tn_flags.specs.Views.{command_of}
use Rattle.tn_trace.specs.Slots.{ObeysOwn}
use Rattle.tn_running_node.proofs.CommandPairs.{Keeps, did_there, track_there, tracked_there, still_absent, created_there}
use Rattle.tn_running_node.proofs.pair.SessionPair.obey_there.Goals as goal

pub returns-in-Some : goal.returns-in-Some
returns-in-Some g c = λ o d fs h own.
    did_there o (alive_of c.args.run.now.alive) (command_of c.args.command.now) c.args.self.now d h c.args.functions.now c.in-Some.there c.command_there.new.session (tree_of c.in_ok-command_there.field-0) fs c.in-Some.is c.in_ok-command_there.ensures

pub returns-in_default-session : goal.returns-in_default-session
returns-in_default-session g c = λ o d fs h own.
    let living = alive_of c.args.run.now.alive in
    let k = command_of c.args.command.now in
    let old = c.args.self.now in
    let t = track_there o living k old d h in
    still_absent o living k old d h c.obey.new.self (tree_of c.in-Some-2.reply) c.in_default.is
    (subst (ObeysOwn Keeps o living t k c.obey.new.self) (ap (option_map tree_of) c.in-Some-2.is) (c.in_ok-reply.ensures o t fs (tracked_there o living k old d h _ c.in_default.is refl c.in_ok-copy_into.ensures refl)))
    c.in_default-session.is

pub returns : goal.returns
returns g c = λ o d fs h own.
    let living = alive_of c.args.run.now.alive in
    let k = command_of c.args.command.now in
    let old = c.args.self.now in
    let t = track_there o living k old d h in
    created_there o living k old d h c.obey.new.self (tree_of c.in-Some-2.reply) c.in_default.is
    (subst (ObeysOwn Keeps o living t k c.obey.new.self) (ap (option_map tree_of) c.in-Some-2.is) (c.in_ok-reply.ensures o t fs (tracked_there o living k old d h _ c.in_default.is refl c.in_ok-copy_into.ensures refl)))
    c.in-Some-session.session c.new-marks.result c.in-Some-session.is c.new-marks.ensures.items
