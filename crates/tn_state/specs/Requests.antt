-- What is written of the state that is asked for (own).
use Rattle.std.specs.Prelude.{◌≡◌, ◌<◌, ◌≤◌, ℕ, Bool, true, false, List, [], length, Option, Some, None}
use Rattle.std.specs.Option.{option_map}
use Rattle.def_term.specs.Names.{Name}
use Rattle.def_script.specs.Program.{Program}
use Rattle.def_script.specs.Rules.{is_created}
use Rattle.def_script.specs.Script.{Refusal}
use Rattle.def_run.specs.Run.{moves}
use Rattle.def_state.specs.States.{state_text}
use Rattle.tn_moves.specs.Schedules.{schedule_seen, ArePicks, HasPicks}
use Rattle.tn_run.specs.Answers.{IsRefusedRun, text_refusal}
use Rattle.tn_run.specs.Jobs.{JobView, failed_end}
use Rattle.tn_run.specs.declared.refusal_form.RefusalForm.TheVariants.{Line}
use Rattle.tn_run.specs.declared.fault.RunFault.{RunFault}
use Rattle.tn_state.specs.declared.request.StateQuestion.{StateQuestion}
use Rattle.tn_state.specs.declared.request.StateRequest.{StateRequest}
use Rattle.tn_state.specs.declared.request.StateOutcome.{StateOutcome}
use Rattle.tn_state.specs.declared.request.StateOutcome.TheVariants.{State, Refused, NoSession, NoMove}

-- the name that is asked for, where one is
abbrev pub asked_name : StateQuestion → Option Name
asked_name q = option_map (λ s. s.now) q.session

-- the session that is asked for is there, where a name is given
abbrev pub HasSession : Option Name → Program → Type 0
HasSession None p = Unit {0}
HasSession (Some n) p = is_created p.commands n ≡ true

-- and it isn't
abbrev pub LacksSession : Option Name → Program → Type 0
LacksSession None p = ⊥
LacksSession (Some n) p = is_created p.commands n ≡ false

-- what is reported of a program's run by these picks, and what is written
abbrev pub IsStateReport : Program → List ℕ → StateQuestion → StateOutcome → List ℕ → Type 0
IsStateReport p picks q State text = HasSession (asked_name q) p × (q.move_number ≤ length (moves p picks)) × (text ≡ state_text (asked_name q) p picks q.move_number)
IsStateReport p picks q NoSession text = LacksSession (asked_name q) p × (text ≡ [])
IsStateReport p picks q NoMove text = HasSession (asked_name q) p × (length (moves p picks) < q.move_number) × (text ≡ [])
IsStateReport p picks q (Refused r) text = ⊥

-- the answer for the picks that are asked
pub record IsAskedState (q : StateRequest) (p : Program) (reported : StateOutcome) (text : List ℕ) : Type 0 where
  pub picks : List ℕ
  pub given : ArePicks (schedule_seen q.schedule) p picks
  pub answer : IsStateReport p picks q.question reported text

-- what is written by each outcome: nothing where the moves are refused
abbrev pub IsShown : StateRequest → Program → StateOutcome → List ℕ → Type 0
IsShown q p State text = IsAskedState q p State text
IsShown q p (Refused r) text = IsRefusedRun (schedule_seen q.schedule) p r text
IsShown q p NoSession text = IsAskedState q p NoSession text
IsShown q p NoMove text = IsAskedState q p NoMove text

-- the refusal of a text that an outcome is
abbrev pub state_refusal : StateOutcome → Option Refusal
state_refusal State = None
state_refusal (Refused r) = text_refusal r
state_refusal NoSession = None
state_refusal NoMove = None

-- the outcome is the state that is asked for
abbrev pub is_state : StateOutcome → Bool
is_state State = true
is_state (Refused r) = false
is_state NoSession = false
is_state NoMove = false

-- the state that is asked for
abbrev pub state_by : StateRequest → JobView StateOutcome RunFault
state_by q = record {
  of_program = IsShown q;
  refusal_in = state_refusal;
  refusal_form = Line;
  succeeds = is_state;
  has = λ outcome. Unit {0};
  reads = HasPicks (schedule_seen q.schedule);
  end_of = failed_end;
}
