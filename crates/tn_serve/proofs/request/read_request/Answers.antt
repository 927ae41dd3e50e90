use Rattle.std.proofs.Common.{Err, ap, arith}
use Rattle.tn_serve.specs.declared.fault.RequestFault.TheVariants.{NoJson}
use Rattle.tn_serve.specs.Views.{request_seen}
use Rattle.tn_serve.proofs.Outcomes.{outcome_of, outcome_fault}
use Rattle.tn_serve.proofs.LineReadings.{value_read, no_value_read}
use Rattle.tn_serve.proofs.request.read_request.Goals as goal

pub returns-in-Ok : goal.returns-in-Ok
returns-in-Ok c =
    outcome_of request_seen c.request_of_json.result _ _
    (value_read c.args.line.now _ (omega arith) c.in-Ok.ensures.ok.0 c.in-Ok.ensures.ok.1)
    c.request_of_json.ensures

pub returns-in-Err-Invalid : goal.returns-in-Err-Invalid
returns-in-Err-Invalid c =
    outcome_fault request_seen NoJson _ (λ _. no_value_read c.args.line.now (omega arith) (c.in-Err-Invalid.ensures.invalid (ap Err c.in-Err-Invalid.field-0-is)))
