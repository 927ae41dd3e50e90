-- How the command `fun --pretty` ends (own).
-- Depends on what the text of a specification answers.
use Rattle.std.specs.Prelude.{◌≡◌, ◌⊎◌, ℕ, true, List, Option, Result, Ok, Err, IfErr, OnOk, IfOk}
use Rattle.tn_spec.specs.declared.func.Dialect.{Dialect}
use Rattle.tn_text.specs.Watch.{has_failed, is_flushed}
use Rattle.tn_text.specs.declared.watched.Watched.{Watched}
use Rattle.tn_run.specs.Ends.{WroteAll, WroteFront}
use Rattle.tn_run.specs.declared.fault.RunFault.{RunFault}
use Rattle.tn_run.specs.declared.fault.RunFault.TheVariants.{OutOfMemory}
use Rattle.tn_command.specs.Status.{LISTED_STATUS, REFUSED_STATUS, FAULT_STATUS}
use Rattle.tn_fun_text.specs.FunsOfSpecs.{IsFunOfSpec}
use Rattle.tn_fun_text.specs.declared.funs_of_specs.FunOfSpec.{FunOfSpec}
use Rattle.tn_fun_text.specs.declared.funs_of_specs.FunOfSpec.TheVariants as answers

-- the fun was written whole and flushed, with status 0; or a write failed after a front of it, with status 3
pub record WritesFun {W A : Type 0} (gained : W → Option (List ℕ)) (old new : Watched W) (text : List ℕ) (n : ℕ) (r : Result (FunOfSpec A) RunFault) : Type 0 where
  pub written : OnOk r (WroteAll gained old new text)
  pub flushed : OnOk r (is_flushed new ≡ true)
  pub unfailed : OnOk r (has_failed new ≡ has_failed old)
  pub status : OnOk r (n ≡ LISTED_STATUS)
  pub fault : IfErr r (λ e. (n ≡ FAULT_STATUS) × (has_failed new ≡ true) × WroteFront gained old new text e)

-- nothing was written, and the status is that of a refusal
pub record WritesNoFun {W : Type 0} (old new : Watched W) (n : ℕ) : Type 0 where
  pub unwritten : new ≡ old
  pub status : n ≡ REFUSED_STATUS

-- what is done with an answer, which is handed on where nothing failed
abbrev pub WritesAnswer : {W A : Type 0} → (W → Option (List ℕ)) → (old new : Watched W) → FunOfSpec A → ℕ → Result (FunOfSpec A) RunFault → Type 0
WritesAnswer gained old new (answers.Fun text) n r = IfOk r (λ a. a ≡ answers.Fun text) × WritesFun gained old new text.items n r
WritesAnswer gained old new (answers.NoFun line) n r = (r ≡ Ok (answers.NoFun line)) × WritesNoFun old new n
WritesAnswer gained old new (answers.NoTerm fault) n r = (r ≡ Ok (answers.NoTerm fault)) × WritesNoFun old new n
WritesAnswer gained old new (answers.NoSpec fault) n r = (r ≡ Ok (answers.NoSpec fault)) × WritesNoFun old new n

-- memory ran out before anything was written
pub record LacksMemoryForFun {W A : Type 0} (old new : Watched W) (n : ℕ) (r : Result (FunOfSpec A) RunFault) : Type 0 where
  pub answer : r ≡ Err OutOfMemory
  pub unwritten : new ≡ old
  pub status : n ≡ FAULT_STATUS

-- the text's answer was written, or memory ran out
abbrev pub AnswersSpec : {W A : Type 0} → Dialect → List ℕ → (W → Option (List ℕ)) → (old new : Watched W) → ℕ → Result (FunOfSpec A) RunFault → Type 0
AnswersSpec {W} {A} d bytes gained old new n r =
    ((a : FunOfSpec A) × IsFunOfSpec d bytes a × WritesAnswer gained old new a n r) ⊎ LacksMemoryForFun old new n r
