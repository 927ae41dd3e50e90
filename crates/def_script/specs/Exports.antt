-- What sessions know of a program from the start of a run on (own).
-- Depends on the program's data.
use Rattle.std.specs.Prelude.{ℕ, Bool, List, map, length}
use Rattle.def_term.specs.Names.{Mfa}
use Rattle.def_script.specs.Program.{Function, mfa_of, Program}

-- what every session knows of the program: the functions with their visibility, and how many processes it begins with
pub record Exports : Type 0 where
  pub functions : List (Mfa × Bool)
  pub processes : ℕ

-- the functions with their visibility
abbrev pub visible : List Function → List (Mfa × Bool)
visible ks = map (λ k. (mfa_of k, k.exported)) ks

-- the functions with their visibility, and the number of initial processes
abbrev pub exports_of : Program → Exports
exports_of p = record { functions = visible p.functions; processes = length p.entries }
