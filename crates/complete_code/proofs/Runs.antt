-- Two runs of one code in one context.
use Rattle.std.proofs.Common.{◌≡◌, List, Result, Ok, Err, IfOk, subst}
use Rattle.def_machine.specs.Instructions.{Instruction}
use Rattle.def_machine.specs.Machine.{Runs, machine_start}
use Rattle.def_machine.proofs.Endings.{one-end}
use Rattle.tn_action.specs.Views.{context_seen, outcome_seen}
use Rattle.tn_action.specs.declared.context.Context.{Context}
use Rattle.tn_action.specs.declared.effect.Outcome.{Outcome}
use Rattle.tn_machine.specs.Runs.{IsItsEnd}

pub run_alike : {A E : Type 0} (x y : List Instruction) (k l : Context A) (r q : Result (Outcome A) E) → x ≡ y → context_seen k ≡ context_seen l
    → IfOk r (λ o. IsItsEnd x k (outcome_seen o)) → IfOk q (λ p. IsItsEnd y l (outcome_seen p)) → IfOk r (λ o. IfOk q (λ p. outcome_seen o ≡ outcome_seen p))
run_alike x y k l (Ok o) (Ok p) one_code one_context run again =
    one-end y (context_seen l) run.0 again.0 machine_start (outcome_seen o) (outcome_seen p)
    (subst (λ is. Runs is (context_seen l) run.0 machine_start (outcome_seen o)) one_code (subst (λ c. Runs x c run.0 machine_start (outcome_seen o)) one_context run.1))
    again.1
run_alike x y k l (Ok o) (Err f) one_code one_context run again = tt
run_alike x y k l (Err e) q one_code one_context run again = tt
