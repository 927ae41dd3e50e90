use Rattle.std.proofs.Common.{rules}
use Rattle.tn_run.specs.Answers.{live_run}
use Rattle.tn_run.proofs.ReadLemmas.{prepared_answer, prepared_refusal}
use Rattle.tn_run.proofs.live.prepare_within.Goals as goal

pub returns-in-Ok-Accepted : goal.returns-in-Ok-Accepted
returns-in-Ok-Accepted g c =
    prepared_answer live_run (λ picks. Unit {0}) g.R.Read.remaining c.args.reader.now c.read_script.new.reader c.in-Ok-Accepted.field-0 _ c.in-Ok-Accepted.program c.answer_live.result
    c.in-Ok-Accepted.field-0-is c.in-Ok-Accepted.ensures c.answer_live.ensures.given c.answer_live.ensures.fault

pub returns-in-Ok-Refused : goal.returns-in-Ok-Refused
returns-in-Ok-Refused g c =
    prepared_refusal live_run (λ picks. Unit {0}) g.R.Read.remaining c.args.reader.now c.read_script.new.reader c.in-Ok-Refused.field-0 c.in-Ok-Refused.outcome c.in-Ok-Refused.text c.refusal_in.result
    c.in-Ok-Refused.field-0-is c.in-Ok-Refused.ensures (search rules) c.refusal_in.ensures.fault
