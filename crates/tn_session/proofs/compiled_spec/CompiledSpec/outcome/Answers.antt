use Rattle.tn_code.specs.Codes.{code_seen}
use Rattle.tn_machine.specs.Types.{context_seen, outcome_seen}
use Rattle.tn_session.specs.Compilations.{compiled_seen}
use Rattle.tn_session.proofs.Outcomes.{end-of-code}
use Rattle.tn_session.proofs.compiled_spec.CompiledSpec.outcome.Goals as goal

pub returns : goal.returns
returns g c =
    let k = c.args.self.now in
    end-of-code (code_seen k.code) (compiled_seen k) (context_seen c.args.context.now) (outcome_seen c.in_ok-execute.field-0) k.specification.sound k.its c.in_ok-execute.ensures.compiled
