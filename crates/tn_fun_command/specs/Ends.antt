-- How the command `fun` ends.
use Rattle.std.specs.Prelude.{◌≡◌, ℕ, true, List, [], ◌∷◌, ◌++◌, Option, Some, None, Result, Ok, Err, IfOk, IfErr, OnOk}
use Rattle.def_term.specs.Tree.{Tree}
use Rattle.def_spec.specs.Expressions.{Dialect}
use Rattle.def_fun.specs.Refusals.{OrRefusal}
use Rattle.def_fun.specs.Answers.{spec_of_text, fun_answer}
use Rattle.tn_text.specs.Watch.{has_failed, is_flushed}
use Rattle.tn_text.specs.declared.watched.Watched.{Watched}
use Rattle.tn_run.specs.Ends.{WroteAll, WroteFront}
use Rattle.tn_run.specs.declared.fault.RunFault.{RunFault}
use Rattle.tn_run.specs.declared.fault.RunFault.TheVariants as faults
use Rattle.tn_command.specs.Status.{LISTED_STATUS, REFUSED_STATUS, FAULT_STATUS}
use Rattle.tn_translation.specs.AnswerViews.{RefusalIs}
use Rattle.tn_translation.specs.declared.fault.FunFault.{FunFault}

-- 0 where the fun has a specification, 2 where it is refused
abbrev pub status_of_fun : OrRefusal Tree → ℕ
status_of_fun (Ok t) = LISTED_STATUS
status_of_fun (Err r) = REFUSED_STATUS

-- the same by the refusal of an answer
abbrev pub status_of_refusal : Option FunFault → ℕ
status_of_refusal None = LISTED_STATUS
status_of_refusal (Some f) = REFUSED_STATUS

-- the bytes on standard output
abbrev pub fun_output : Dialect → List ℕ → List ℕ
fun_output d text = fun_answer d text ++ 10 ∷ []

-- memory ran out before anything was written, or the writer failed, and had taken a front of the output
abbrev pub IsFunFault : {W : Type 0} → (W → Option (List ℕ)) → (old new : Watched W) → List ℕ → RunFault → Type 0
IsFunFault gained old new output faults.OutOfMemory = new ≡ old
IsFunFault gained old new output fault = (has_failed new ≡ true) × WroteFront gained old new output fault

-- the answer was written whole and flushed, with status 0, or 2 beside its refusal; or a fault says why not, with status 3
pub record AnswersFun {W : Type 0} (d : Dialect) (text : List ℕ) (gained : W → Option (List ℕ)) (old new : Watched W) (n : ℕ) (r : Result (Option FunFault) RunFault) : Type 0 where
  pub written : OnOk r (WroteAll gained old new (fun_output d text))
  pub flushed : OnOk r (is_flushed new ≡ true)
  pub unfailed : OnOk r (has_failed new ≡ has_failed old)
  pub refusal : IfOk r (λ o. RefusalIs text o (spec_of_text d text))
  pub status : OnOk r (n ≡ status_of_fun (spec_of_text d text))
  pub fault : IfErr r (λ e. (n ≡ FAULT_STATUS) × IsFunFault gained old new (fun_output d text) e)
