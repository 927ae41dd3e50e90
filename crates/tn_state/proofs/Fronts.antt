-- The state after the first moves of a journal, and the answer that it is.
use Rattle.std.proofs.Common.{◌≡◌, ◌∙◌, ℕ, List, [], ◌++◌, take, Option, Result, Ok, Err, IfOk, ap}
use Rattle.std.specs.declared.vec.Vec.{Vec}
use Rattle.def_term.specs.Names.{Name}
use Rattle.def_script.specs.Program.{Program}
use Rattle.def_run.specs.Run.{moves}
use Rattle.def_state.specs.States.{text_after, state_text}
use Rattle.def_state.proofs.Journals.{front_moves}
use Rattle.tn_moves.specs.Schedules.{schedule_seen, ArePicks}
use Rattle.tn_state.specs.Requests.{IsShown, IsStateReport}
use Rattle.tn_state.specs.declared.request.StateRequest.{StateRequest}
use Rattle.tn_state.specs.declared.request.StateOutcome.{StateOutcome}
use Rattle.tn_state.specs.declared.request.StateOutcome.TheVariants.{State, Refused, NoSession, NoMove}

-- the state after those of these moves that move is that after these moves of the run
pub front_state : (asked : Option Name) (p : Program) (picks journal : List ℕ) (n : ℕ) (a d : List ℕ) → journal ≡ moves p picks → a ≡ [] → d ≡ a ++ text_after asked p (moves p (take n journal)) → d ≡ state_text asked p picks n
front_state asked p picks journal n a d is none text =
    text ∙ ap (λ x. x ++ text_after asked p (moves p (take n journal))) none
    ∙ ap (λ js. text_after asked p (moves p (take n js))) is
    ∙ ap (text_after asked p) (front_moves p picks n)

-- ---- of a run by the picks that are asked

shown : (q : StateRequest) (p : Program) (picks : List ℕ) (outcome : StateOutcome) (text : List ℕ) → ArePicks (schedule_seen q.schedule) p picks → IsStateReport p picks q.question outcome text → IsShown q p outcome text
shown q p picks State text given h = record { picks = picks; given = given; answer = h }
shown q p picks (Refused r) text given h = absurd h
shown q p picks NoSession text given h = record { picks = picks; given = given; answer = h }
shown q p picks NoMove text given h = record { picks = picks; given = given; answer = h }

pub shown_by : {A E : Type 0} (q : StateRequest) (p : Program) (picks : List ℕ) (r : Result (StateOutcome × Vec ℕ A) E) → ArePicks (schedule_seen q.schedule) p picks → IfOk r (λ x. IsStateReport p picks q.question x.0 x.1.items) → IfOk r (λ x. IsShown q p x.0 x.1.items)
shown_by q p picks (Ok x) given h = shown q p picks x.0 x.1.items given h
shown_by q p picks (Err e) given h = h
