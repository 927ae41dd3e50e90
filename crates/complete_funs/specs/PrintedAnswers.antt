-- Two answers of the printer of funs that are alike.
use Rattle.std.specs.Prelude.{◌≡◌, ℕ, List, Result, Ok, Err}
use Rattle.tn_fun_text.specs.declared.clause_check.FunTextFault.{FunTextFault}
use Rattle.tn_fun_text.specs.declared.clause_check.FunTextFault.TheVariants as faults
use Rattle.tn_fun_text.specs.Reasons.{no_fun_seen}

-- the same text, or the same reason and the same text, unless memory ran out
abbrev pub ArePrintedAlike : {A U V : Type 0} → Result U (FunTextFault A) → List ℕ → Result V (FunTextFault A) → List ℕ → Type 0
ArePrintedAlike (Ok u) a (Ok v) b = a ≡ b
ArePrintedAlike (Ok u) a (Err (faults.NoFun n)) b = ⊥
ArePrintedAlike (Ok u) a (Err faults.OutOfMemory) b = Unit {0}
ArePrintedAlike (Err (faults.NoFun n)) a (Ok v) b = ⊥
ArePrintedAlike (Err (faults.NoFun n)) a (Err (faults.NoFun m)) b = (no_fun_seen n ≡ no_fun_seen m) × (a ≡ b)
ArePrintedAlike (Err (faults.NoFun n)) a (Err faults.OutOfMemory) b = Unit {0}
ArePrintedAlike (Err faults.OutOfMemory) a s b = Unit {0}
