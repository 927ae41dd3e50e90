-- The function that was probably meant, in the words of the definitions.
use Rattle.std.specs.Prelude.{◌≡◌, Bool, List, Option}
use Rattle.std.specs.Option.{option_map}
use Rattle.std.specs.Borrow.{Bor}
use Rattle.def_term.specs.Names.{Mfa}
use Rattle.def_script.specs.Program.{mfa_of}
use Rattle.def_script.specs.Exports.{visible}
use Rattle.def_explain.specs.NearestFunctions.{first_function}
use Rattle.tn_script.specs.Views.{function_of, functions_of}
use Rattle.tn_script.specs.declared.form.Function.{Function}

-- the name of the function that is lent, where there is one
abbrev pub lent_function : {A : Type 0} → Option (Bor (Function A)) → Option Mfa
lent_function f = option_map (λ b. mfa_of (function_of b.now)) f

-- the functions with their visibility
abbrev pub functions_seen : {A : Type 0} → List (Function A) → List (Mfa × Bool)
functions_seen ks = visible (functions_of ks)

-- the first of the functions for which the test holds
abbrev pub IsFirstFunction : {A : Type 0} → (Mfa → Bool) → List (Function A) → Option (Bor (Function A)) → Type 0
IsFirstFunction test ks f = lent_function f ≡ first_function test (functions_seen ks)
