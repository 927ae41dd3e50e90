-- What an operator of constants gives, and what of the definition that stands for.
use Rattle.std.specs.Prelude.{◌≡◌, ℤ}
use Rattle.def_term.specs.Tree.{int}
use Rattle.def_fun.specs.Constants as constants
use Rattle.def_fun.specs.Constants.{not_computed, gives, gives_too_large, gives_integer, gives_truth}
use Rattle.tn_fun_text.specs.declared.integers.Computation.{Computation}
use Rattle.tn_fun_text.specs.declared.integers.Computation.TheVariants as outcomes

abbrev pub fun_computation_seen : Computation → constants.Computation
fun_computation_seen outcomes.Nothing = not_computed
fun_computation_seen (outcomes.Integer z) = gives (int z)
fun_computation_seen (outcomes.Truth b) = gives_truth b
fun_computation_seen outcomes.TooLarge = gives_too_large

-- it is the integer, or that is too large
abbrev pub AgreesWithInteger : Computation → ℤ → Type 0
AgreesWithInteger r z = fun_computation_seen r ≡ gives_integer z
