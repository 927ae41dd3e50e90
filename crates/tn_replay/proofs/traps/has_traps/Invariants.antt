use Rattle.std.proofs.Common.{◌≡◌, drop, map}
use Rattle.std.specs.List.{list_any}
use Rattle.def_script.specs.Exports.{exports_of}
use Rattle.def_explain.specs.Remarks.{command_has_trap}
use Rattle.tn_flags.specs.Views.{command_of}
use Rattle.tn_program.specs.Views.{program_of}
use Rattle.tn_replay.proofs.traps.has_traps.Given as goal

abbrev pub invariant-loop-command : goal.invariant-loop-command
invariant-loop-command g l =
    let test = command_has_trap (exports_of (program_of l.program)) in
    list_any test (map command_of (drop l.command-index l.command-items)) ≡ list_any test (map command_of l.command-items)
