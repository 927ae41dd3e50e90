-- What a call answers that prints a specification as a fun.
use Rattle.std.specs.Prelude.{◌≡◌, ℕ, List, ◌++◌, Result, Ok, Err}
use Rattle.def_fun.specs.FunTexts as texts
use Rattle.tn_fun_text.specs.declared.clause_check.FunTextFault.{FunTextFault}
use Rattle.tn_fun_text.specs.declared.clause_check.FunTextFault.TheVariants as faults
use Rattle.tn_fun_text.specs.Reasons.{no_fun_seen}

-- this text was added
pub record HasText (r : Result (List ℕ) texts.NoFun) (old new : List ℕ) : Type 0 where
  pub text : List ℕ
  pub printed : r ≡ Ok text
  pub added : new ≡ old ++ text

-- this is the reason, and nothing was added
pub record HasReason (r : Result (List ℕ) texts.NoFun) (n : texts.NoFun) (old new : List ℕ) : Type 0 where
  pub printed : r ≡ Err n
  pub same : new ≡ old

-- the text, or the reason; where memory ran out nothing is said
abbrev pub IsPrinted : {A U : Type 0} → Result (List ℕ) texts.NoFun → List ℕ → List ℕ → Result U (FunTextFault A) → Type 0
IsPrinted r old new (Ok u) = HasText r old new
IsPrinted r old new (Err (faults.NoFun n)) = HasReason r (no_fun_seen n) old new
IsPrinted r old new (Err faults.OutOfMemory) = Unit {0}
