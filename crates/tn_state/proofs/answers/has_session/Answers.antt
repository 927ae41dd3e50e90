use Rattle.std.proofs.Common.{refl, sym, ◌∙◌}
use Rattle.tn_flags.specs.Views.{command_of}
use Rattle.def_script.specs.Rules.{creates_session}
use Rattle.tn_program.proofs.Any.{any_found, any_next, any_none}
use Rattle.tn_state.proofs.answers.has_session.Goals as goal

pub loop-command-init : goal.loop-command-init
loop-command-init g c = refl

pub returns-then-creates : goal.returns-then-creates
returns-then-creates g c =
    any_found (creates_session c.args.name.now) (command_of {A = g.row.A.Denot}) c.args.commands.now c.loop-command.command-index c.command-item.result c.loop-command-test.true c.command-item.is (sym c.creates.ensures ∙ c.if-creates.true) c.loop-command.invariant

pub loop-command-preserved : goal.loop-command-preserved
loop-command-preserved g c =
    any_next (creates_session c.args.name.now) (command_of {A = g.row.A.Denot}) c.args.commands.now c.loop-command.command-index c.command-item.result c.loop-command-test.true c.command-item.is (sym c.creates.ensures ∙ c.if-creates.false) c.loop-command.invariant

pub returns : goal.returns
returns g c = any_none (creates_session c.args.name.now) (command_of {A = g.row.A.Denot}) c.args.commands.now c.loop-command.command-index c.loop-command-test.false c.loop-command.invariant
