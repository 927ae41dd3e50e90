use Rattle.std.proofs.lemmas.Result.{err_from_is_err_and}
use Rattle.tn_serve.specs.Views.{request_seen}
use Rattle.tn_serve.proofs.Outcomes.{outcome_of, outcome_fault}
use Rattle.tn_serve.proofs.ReadMembers.{object_read}
use Rattle.tn_serve.proofs.request.request_of_json.Goals as goal

pub returns-in_err-parts_of : goal.returns-in_err-parts_of
returns-in_err-parts_of c =
    let p = err_from_is_err_and c.from_residual.result c.from_residual.ensures.1 in
    rw (p.1, p.2)
    (outcome_fault request_seen _ _ (λ other. object_read c.args.value.now c.in-Object.members c.deref.result.now _ c.in-Object.is c.deref.ensures.value (c.in_err-parts_of.ensures.err other)))

pub returns-in_ok-parts_of : goal.returns-in_ok-parts_of
returns-in_ok-parts_of c =
    outcome_of request_seen c.request_of_parts.result _ _
    (object_read c.args.value.now c.in-Object.members c.deref.result.now _ c.in-Object.is c.deref.ensures.value c.in_ok-parts_of.ensures.ok)
    c.request_of_parts.ensures
