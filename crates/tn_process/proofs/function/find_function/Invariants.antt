use Rattle.std.proofs.Common.{◌≡◌, drop}
use Rattle.def_term.specs.Names.{Mfa}
use Rattle.def_script.specs.Program.{number_from}
use Rattle.tn_script.specs.Views.{functions_of}
use Rattle.tn_process.proofs.function.find_function.Given as goal

abbrev pub invariant-loop-i : goal.invariant-loop-i
invariant-loop-i g l =
    let f : Mfa = record { module_name = l.module_name; function_name = l.name; arity = l.arity } in
    number_from l.i (functions_of (drop l.i l.functions)) f ≡ number_from 0 (functions_of l.functions) f
