use Rattle.std.proofs.Common.{refl, sym, ◌∙◌}
use Rattle.tn_flags.specs.Views.{command_of}
use Rattle.tn_program.specs.Commands.{creates_with}
use Rattle.tn_program.proofs.Any.{any_found, any_next, any_none}
use Rattle.tn_program.proofs.session_rules.commands_create.Goals as goal

pub loop-command-init : goal.loop-command-init
loop-command-init g c = refl

pub returns-then-is_creation_with : goal.returns-then-is_creation_with
returns-then-is_creation_with g c =
    any_found (creates_with c.args.of c.args.name.now) (command_of {A = g.row.A.Denot}) c.args.commands.now c.loop-command.command-index c.command-item.result c.loop-command-test.true c.command-item.is (sym c.is_creation_with.ensures ∙ c.if-is_creation_with.true) c.loop-command.invariant

pub loop-command-preserved : goal.loop-command-preserved
loop-command-preserved g c =
    any_next (creates_with c.args.of c.args.name.now) (command_of {A = g.row.A.Denot}) c.args.commands.now c.loop-command.command-index c.command-item.result c.loop-command-test.true c.command-item.is (sym c.is_creation_with.ensures ∙ c.if-is_creation_with.false) c.loop-command.invariant

pub returns : goal.returns
returns g c = any_none (creates_with c.args.of c.args.name.now) (command_of {A = g.row.A.Denot}) c.args.commands.now c.loop-command.command-index c.loop-command-test.false c.loop-command.invariant
