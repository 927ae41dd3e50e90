use Rattle.std.proofs.Common.{◌∙◌, ◌+◌, refl, sym, ap}
use Rattle.std.proofs.lemmas.List.{take_rest}
use Rattle.tn_state.specs.Commands.{own_commands}
use Rattle.tn_state.proofs.OwnCommands.{creation_here, creation_later, no_creation}
use Rattle.tn_state.proofs.commands.since_creation.Goals as goal

pub loop-place-init : goal.loop-place-init
loop-place-init g c = refl

pub loop-place-preserved : goal.loop-place-preserved
loop-place-preserved g c =
    let l = c.loop-place in
    sym (creation_later c.args.name.now c.args.commands.now l.place c.index-commands-place.result c.loop-place-test.true c.index-commands-place.is (sym c.creates.ensures ∙ c.if-creates.false)) ∙ l.invariant

pub returns-then-creates : goal.returns-then-creates
returns-then-creates g c =
    let l = c.loop-place in
    ap (own_commands c.args.name.now) (take_rest c.args.commands.now (l.place + 1))
    ∙ sym (creation_here c.args.name.now c.args.commands.now l.place c.index-commands-place.result c.loop-place-test.true c.index-commands-place.is (sym c.creates.ensures ∙ c.if-creates.true)) ∙ l.invariant

pub returns : goal.returns
returns g c =
    let l = c.loop-place in
    sym (no_creation c.args.name.now c.args.commands.now l.place c.loop-place-test.false) ∙ l.invariant
