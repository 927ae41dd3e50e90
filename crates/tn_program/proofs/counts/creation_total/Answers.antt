use Rattle.std.proofs.Common.{◌-◌, ◌^◌, cond, lit<}
use Rattle.def_script.specs.Rules.{is_creation}
use Rattle.tn_flags.specs.Views.{command_of}
use Rattle.tn_program.proofs.Totals.{total_next, total_all, one_fits}
use Rattle.tn_program.proofs.counts.creation_total.Goals as goal

pub loop-command-preserved : goal.loop-command-preserved
loop-command-preserved g c =
    total_next (λ y. cond (is_creation y) 1 0) (command_of {A = g.row.A.Denot}) c.args.commands.now c.loop-command.command-index c.command-item.result (2 ^ 64 - 1) c.loop-command.total c.creations_in.result c.saturating_add-total.result c.loop-command-test.true c.command-item.is (one_fits (is_creation ((command_of {A = g.row.A.Denot}) c.command-item.result)) c.creations_in.result (2 ^ 64 - 1) (lit< tt) c.creations_in.ensures) c.saturating_add-total.ensures c.loop-command.invariant

pub returns : goal.returns
returns g c =
    total_all (λ y. cond (is_creation y) 1 0) (command_of {A = g.row.A.Denot}) c.args.commands.now c.loop-command.command-index c.loop-command.total (2 ^ 64 - 1) c.loop-command-test.false c.loop-command.invariant
