use Rattle.std.proofs.Common.{◌∙◌, map, sym, ap}
use Rattle.std.specs.List.{list_any}
use Rattle.def_script.specs.Exports.{exports_of}
use Rattle.def_explain.specs.Remarks.{command_has_trap, has_traps}
use Rattle.tn_flags.specs.Views.{command_of}
use Rattle.tn_program.specs.Views.{program_of}
use Rattle.tn_replay.proofs.ProgramTraps.{found, passed}
use Rattle.tn_replay.proofs.traps.has_traps.Goals as goal

pub returns-then-branch : goal.returns-then-branch
returns-then-branch g c =
    let p = program_of c.args.program.now in
    let test = command_has_trap (exports_of p) in
    let items = c.commands-command-items.result.now in
    found command_of test items c.loop-command.command-index c.command-item.result c.loop-command-test.true c.command-item.is
    (sym c.if-branch.true ∙ c.in_ok-command_has_trap.ensures) (has_traps p) (c.loop-command.invariant ∙ ap (list_any test) c.commands-command-items.ensures)

pub loop-command-preserved : goal.loop-command-preserved
loop-command-preserved g c =
    let test = command_has_trap (exports_of (program_of c.args.program.now)) in
    let items = c.commands-command-items.result.now in
    passed command_of test items c.loop-command.command-index c.command-item.result c.loop-command-test.true c.command-item.is
    (sym c.if-branch.false ∙ c.in_ok-command_has_trap.ensures) (list_any test (map command_of items)) c.loop-command.invariant
