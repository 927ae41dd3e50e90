-- Outcomes of what is read.
use Rattle.std.proofs.Common.{◌≡◌, ◌≢◌, Result, Ok, Err, sym, subst}
use Rattle.def_serve.specs.Requests as definition
use Rattle.tn_serve.specs.declared.fault.RequestFault.{RequestFault}
use Rattle.tn_serve.specs.declared.fault.RequestFault.TheVariants.{Memory}
use Rattle.tn_serve.specs.Views.{request_fault_seen, IsRequestOutcome}

module _ {A B : Type 0} (seen : A → B) where
  -- of what is defined otherwise, and is the same
  pub outcome_of : (r : Result A RequestFault) (one other : Result B definition.RequestFault) → other ≡ one → IsRequestOutcome seen r one → IsRequestOutcome seen r other
  outcome_of r one other is h = subst (λ d. IsRequestOutcome seen r d) (sym is) h

  pub outcome_ok : (a : A) (d : Result B definition.RequestFault) → d ≡ Ok (seen a) → IsRequestOutcome seen (Ok a) d
  outcome_ok a d is = record { ok = is; err = tt }

  pub outcome_fault : (f : RequestFault) (d : Result B definition.RequestFault) → (f ≢ Memory → d ≡ Err (request_fault_seen f)) → IsRequestOutcome seen (Err f) d
  outcome_fault f d is = record { ok = tt; err = is }
