-- What is written of a program whose schedules are explored.
use Rattle.std.specs.Prelude.{◌≡◌, ◌&&◌, ◌||◌, ℕ, suc, Bool, true, false, List, [], ◌∷◌, ◌++◌, map, Option, Some, None, is_some, if◌then◌else◌}
use Rattle.std.specs.Option.{option_map}
use Rattle.std.specs.Str.{bytes_eq}
use Rattle.def_term.specs.Names.{Name}
use Rattle.def_script.specs.Program.{Program}
use Rattle.def_script.specs.Script.{Refusal, creations}
use Rattle.def_run.specs.Round.{is_empty}
use Rattle.def_departure.specs.Departures.{departure_text}
use Rattle.tn_answers.specs.SearchAnswers.{form_seen, search_question_seen}
use Rattle.tn_answers.specs.declared.form.AnswerForm.{AnswerForm}
use Rattle.tn_answers.specs.declared.form.AnswerForm.TheVariants as answers
use Rattle.tn_moves.specs.Schedules.{schedule_seen, AreMovesOf, HasPicks}
use Rattle.tn_run.specs.Answers.{IsRefusedRun, text_refusal}
use Rattle.tn_run.specs.Jobs.{JobView, failed_end}
use Rattle.tn_run.specs.declared.refusal_form.RefusalForm.{RefusalForm}
use Rattle.tn_run.specs.declared.refusal_form.RefusalForm.TheVariants.{Line, Json}
use Rattle.tn_run.specs.declared.fault.RunFault.{RunFault}
use Rattle.tn_search.specs.Sessions.{elements_at}
use Rattle.tn_search.specs.States.{is_by_process}
use Rattle.tn_exploration.specs.Searches.{SearchText, IsAnswerBy}
use Rattle.tn_exploration.specs.declared.request.ExploreRequest.{ExploreRequest}
use Rattle.tn_exploration.specs.declared.request.ExploreOutcome.{ExploreOutcome}
use Rattle.tn_exploration.specs.declared.searches.SearchEnd.{SearchEnd}
use Rattle.tn_exploration.specs.declared.request.ExploreOutcome.TheVariants.{Complete, Incomplete, Unmet, NoSession, Refused}

-- ---- the sessions that it is about

-- the name of the session that it is about, where it is about one
abbrev pub session_name : ExploreRequest → Option Name
session_name q = option_map (λ s. s.now) q.session

-- it is about all sessions, or about that of this name
abbrev pub is_session_of_request : Option Name → Name → Bool
is_session_of_request None name = true
is_session_of_request (Some asked) name = bytes_eq asked name

-- the place, where it is about the session there
abbrev pub place_of_request : Option Name → ℕ → Option (Name × Name) → List ℕ
place_of_request asked place None = []
place_of_request asked place (Some session) = if is_session_of_request asked session.0 then place ∷ [] else []

-- the places, from this one on, of the sessions that it is about
abbrev pub places_from : Option Name → ℕ → List (Name × Name) → List ℕ
places_from asked place [] = []
places_from asked place (session ∷ sessions) = place_of_request asked place (Some session) ++ places_from asked (suc place) sessions

-- those of a program
abbrev pub places_of : Option Name → Program → List ℕ
places_of asked p = places_from asked 0 (creations p.commands)

-- ---- what is written

-- the text answers the question about the sessions at these places, by the schedules that begin with a journal or by random runs that do, and explains the move by which a run departs from a trace that none shows; it says whether more states could change nothing, and whether a demand is refuted or the trace is impossible
abbrev pub IsSearchText : ExploreRequest → Program → (before places text : List ℕ) → (settled unmet : Bool) → Type 0
IsSearchText q p before places text settled unmet =
    (answer : List ℕ) × (departure : Option (List ℕ))
    × IsAnswerBy q.random (form_seen q.form) (elements_at places (creations p.commands)) (search_question_seen q.question) (is_by_process q.order) q.reduces p before places q.max_states (record { text = answer; settled = settled; unmet = unmet }) departure
    × (text ≡ answer ++ departure_text (form_seen q.form) (elements_at places (creations p.commands)) p departure)

-- the texts of searches, each about the sessions at some places, one after another, whether all of them are settled, and whether one is unmet
abbrev pub AreSearchTexts : ExploreRequest → Program → List ℕ → List (List ℕ) → List ℕ → (settled unmet : Bool) → Type 0
AreSearchTexts q p before [] text settled unmet = (text ≡ []) × (settled ≡ true) × (unmet ≡ false)
AreSearchTexts q p before (places ∷ groups) text settled unmet =
    (a : SearchText) × (b : SearchText) × IsSearchText q p before places a.text a.settled a.unmet × AreSearchTexts q p before groups b.text b.settled b.unmet
    × (text ≡ a.text ++ b.text) × (settled ≡ (a.settled && b.settled)) × (unmet ≡ (a.unmet || b.unmet))

-- each session is asked about by itself, as it depends on no other; where there is none, what moves is asked about alone
abbrev pub groups_of : List ℕ → List (List ℕ)
groups_of [] = [] ∷ []
groups_of (place ∷ places) = map (λ n. n ∷ []) (place ∷ places)

-- a session is asked for that the control list doesn't create
abbrev pub lacks_session : ExploreRequest → List ℕ → Bool
lacks_session q places = is_some q.session && is_empty places

-- by each outcome
abbrev pub IsExplorationFrom : ExploreRequest → Program → List ℕ → ExploreOutcome → List ℕ → Type 0
IsExplorationFrom q p before Complete text =
    let places = places_of (session_name q) p in (lacks_session q places ≡ false) × AreSearchTexts q p before (groups_of places) text true false
IsExplorationFrom q p before Incomplete text =
    let places = places_of (session_name q) p in (lacks_session q places ≡ false) × AreSearchTexts q p before (groups_of places) text false false
IsExplorationFrom q p before Unmet text =
    let places = places_of (session_name q) p in (lacks_session q places ≡ false) × ((settled : Bool) × AreSearchTexts q p before (groups_of places) text settled true)
IsExplorationFrom q p before NoSession text = (lacks_session q (places_of (session_name q) p) ≡ true) × (text ≡ [])
IsExplorationFrom q p before (Refused r) text = ⊥

-- ---- a text that grows

-- the text of a search comes after it
abbrev pub AddsSearch : ExploreRequest → Program → (before places : List ℕ) → (old new : List ℕ) → SearchEnd → Type 0
AddsSearch q p before places old new end = (text : List ℕ) × IsSearchText q p before places text end.is_settled end.is_unmet × (new ≡ old ++ text)

-- the texts of searches do
abbrev pub AddsSearches : ExploreRequest → Program → List ℕ → List (List ℕ) → (old new : List ℕ) → SearchEnd → Type 0
AddsSearches q p before groups old new end = (text : List ℕ) × AreSearchTexts q p before groups text end.is_settled end.is_unmet × (new ≡ old ++ text)

-- ---- by the moves that are asked for

-- of the moves that are asked for
pub record IsAskedExploration (q : ExploreRequest) (p : Program) (outcome : ExploreOutcome) (text : List ℕ) : Type 0 where
  pub before : List ℕ
  pub made : AreMovesOf (schedule_seen q.schedule) p before
  pub exploration : IsExplorationFrom q p before outcome text

-- what is written by each outcome: nothing where the moves are refused
abbrev pub IsExploration : ExploreRequest → Program → ExploreOutcome → List ℕ → Type 0
IsExploration q p (Refused r) text = IsRefusedRun (schedule_seen q.schedule) p r text
IsExploration q p outcome text = IsAskedExploration q p outcome text

-- the refusal of a text that an outcome is
abbrev pub explore_refusal : ExploreOutcome → Option Refusal
explore_refusal (Refused r) = text_refusal r
explore_refusal outcome = None

-- the outcome is an answer
abbrev pub is_exploration : ExploreOutcome → Bool
is_exploration Complete = true
is_exploration Incomplete = true
is_exploration Unmet = true
is_exploration NoSession = false
is_exploration (Refused r) = false

-- what is written for a refusal: an object of JSON where the answer is JSON
abbrev pub refusals_in : AnswerForm → RefusalForm
refusals_in answers.Plain = Line
refusals_in answers.Summary = Line
refusals_in answers.Json = Json

-- the exploration that is asked for
abbrev pub explore_by : ExploreRequest → JobView ExploreOutcome RunFault
explore_by q = record {
  of_program = IsExploration q;
  refusal_in = explore_refusal;
  refusal_form = refusals_in q.form;
  succeeds = is_exploration;
  has = λ outcome. Unit {0};
  reads = HasPicks (schedule_seen q.schedule);
  end_of = failed_end;
}
