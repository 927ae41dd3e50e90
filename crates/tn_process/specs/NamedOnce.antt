-- Functions of which no two have the same name and number of parameters.
use Rattle.std.specs.Prelude.{◌≡◌, List, ℕ, Some, slice_get}
use Rattle.def_script.specs.Program.{mfa_of, number_from}
use Rattle.tn_script.specs.Views.{function_of, functions_of}
use Rattle.tn_script.specs.declared.form.Function.{Function}

-- each is the first of its name and number of parameters
abbrev pub NamedOnce : {A : Type 0} → List (Function A) → Type 0
NamedOnce {A} ks = (i : ℕ) (k : Function A) → slice_get ks i ≡ Some k → number_from 0 (functions_of ks) (mfa_of (function_of k)) ≡ Some i
