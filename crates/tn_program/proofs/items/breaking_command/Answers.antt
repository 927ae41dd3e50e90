use Rattle.std.proofs.Common.{sym, ◌∙◌}
use Rattle.tn_program.specs.Commands.{command_breaks, form_commands}
use Rattle.tn_flags.specs.Views.{command_of}
use Rattle.tn_program.proofs.Positions.{position_begins, position_found, position_next, position_none}
use Rattle.tn_program.proofs.items.breaking_command.Goals as goal

pub loop-i-init : goal.loop-i-init
loop-i-init g c = position_begins (command_breaks c.args.rule) (command_of {A = g.row.A.Denot}) (form_commands {A = g.row.A.Denot} c.args.forms.now) c.args.commands.now

pub returns-then-breaks : goal.returns-then-breaks
returns-then-breaks g c =
    position_found (command_breaks c.args.rule) (command_of {A = g.row.A.Denot}) (form_commands {A = g.row.A.Denot} c.args.forms.now) c.args.commands.now c.loop-i.i c.index-commands-i.result c.loop-i-test.true c.index-commands-i.is (sym c.breaks.ensures ∙ c.if-breaks.true) c.loop-i.invariant

pub loop-i-preserved : goal.loop-i-preserved
loop-i-preserved g c =
    position_next (command_breaks c.args.rule) (command_of {A = g.row.A.Denot}) (form_commands {A = g.row.A.Denot} c.args.forms.now) c.args.commands.now c.loop-i.i c.index-commands-i.result c.loop-i-test.true c.index-commands-i.is (sym c.breaks.ensures ∙ c.if-breaks.false) c.loop-i.invariant

pub returns : goal.returns
returns g c =
    position_none (command_breaks c.args.rule) (command_of {A = g.row.A.Denot}) (form_commands {A = g.row.A.Denot} c.args.forms.now) c.args.commands.now c.loop-i.i c.loop-i-test.false c.loop-i.invariant
