use Rattle.std.proofs.Common.{◌≡◌, ◌<◌, ℕ, Some, slice_get}
use Rattle.def_script.specs.Program.{mfa_of, number_from}
use Rattle.tn_script.specs.Views.{function_of, functions_of}
use Rattle.tn_script.specs.declared.form.Function.{Function}
use Rattle.tn_process.proofs.functions.is_named_once.Given as goal

abbrev pub invariant-loop-i : goal.invariant-loop-i
invariant-loop-i g l =
    (j : ℕ) (k : Function g.row.A.Denot) → j < l.i → slice_get l.functions j ≡ Some k → number_from 0 (functions_of l.functions) (mfa_of (function_of k)) ≡ Some j
