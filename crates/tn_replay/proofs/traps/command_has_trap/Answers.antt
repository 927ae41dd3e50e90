use Rattle.std.proofs.Common.{sym, ap}
use Rattle.std.proofs.lemmas.Result.{IfOk-weaker}
use Rattle.def_script.specs.Exports.{exports_of, visible}
use Rattle.tn_program.specs.Views.{program_of}
use Rattle.tn_replay.proofs.traps.command_has_trap.Goals as goal

pub returns : goal.returns
returns g c =
    IfOk-weaker c.has_trap.result _ _ (λ b tells. tells (exports_of (program_of c.args.program.now)) (sym (ap visible c.functions.ensures))) c.has_trap.ensures
