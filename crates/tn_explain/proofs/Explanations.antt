-- What is written of a run by the picks that are asked.
use Rattle.std.proofs.Common.{ℕ, List, Result, Ok, Err, IfOk}
use Rattle.std.specs.declared.vec.Vec.{Vec}
use Rattle.def_script.specs.Program.{Program}
use Rattle.tn_moves.specs.Schedules.{schedule_seen, ArePicks}
use Rattle.tn_explain.specs.Accounts.{IsAnswer, IsExplanation}
use Rattle.tn_explain.specs.Filters.{account_question_seen}
use Rattle.tn_explain.specs.declared.request.ExplainRequest.{ExplainRequest}
use Rattle.tn_explain.specs.declared.request.ExplainOutcome.{ExplainOutcome}
use Rattle.tn_explain.specs.declared.request.ExplainOutcome.TheVariants.{Account, Refused, NoSession, NoMove, NoDifference, NoMessage}

explained : (q : ExplainRequest) (p : Program) (picks : List ℕ) (outcome : ExplainOutcome) (text : List ℕ) → ArePicks (schedule_seen q.schedule) p picks → IsAnswer p picks (account_question_seen q.filter q.message) outcome text → IsExplanation q p outcome text
explained q p picks Account text given h = record { picks = picks; given = given; answer = h }
explained q p picks (Refused r) text given h = absurd h
explained q p picks NoSession text given h = record { picks = picks; given = given; answer = h }
explained q p picks NoMove text given h = record { picks = picks; given = given; answer = h }
explained q p picks NoDifference text given h = record { picks = picks; given = given; answer = h }
explained q p picks NoMessage text given h = record { picks = picks; given = given; answer = h }

pub explained_by : {A E : Type 0} (q : ExplainRequest) (p : Program) (picks : List ℕ) (r : Result (ExplainOutcome × Vec ℕ A) E) → ArePicks (schedule_seen q.schedule) p picks → IfOk r (λ x. IsAnswer p picks (account_question_seen q.filter q.message) x.0 x.1.items) → IfOk r (λ x. IsExplanation q p x.0 x.1.items)
explained_by q p picks (Ok x) given h = explained q p picks x.0 x.1.items given h
explained_by q p picks (Err e) given h = h
