use Rattle.std.proofs.Common.{sym, ◌∙◌}
use Rattle.tn_program.specs.Commands.{command_breaks, form_commands}
use Rattle.tn_flags.specs.Views.{command_of}
use Rattle.tn_program.proofs.Any.{earlier_next}
use Rattle.tn_program.proofs.session_rules.any_breaks.Goals as goal

pub loop-i-preserved : goal.loop-i-preserved
loop-i-preserved g c =
    earlier_next (command_breaks c.args.rule) (command_of {A = g.row.A.Denot}) (form_commands {A = g.row.A.Denot} c.args.forms.now) c.args.commands.now c.loop-i.i c.index-commands-i.result c.loop-i-test.true c.index-commands-i.is (sym c.breaks.ensures ∙ c.if-breaks.false) c.loop-i.invariant
