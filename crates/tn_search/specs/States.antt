-- What a state of a search stands for, and what a search through all schedules answers.
-- Depends on runs, and on the questions of a search.
use Rattle.std.specs.Prelude.{◌≡◌, ℕ, Bool, true, false, List}
use Rattle.def_term.specs.Tree.{Tree}
use Rattle.def_script.specs.Program.{Program}
use Rattle.def_run.specs.Run.{JOURNAL, moves}
use Rattle.def_explore.specs.Rests.{KeptMessages}
use Rattle.tn_program.specs.Views.{program_of}
use Rattle.tn_program.specs.declared.parts.Program as code
use Rattle.tn_trace.specs.Recorders.{HasRecorded}
use Rattle.tn_trace.specs.Runs.{IsRun}
use Rattle.tn_explore.specs.Query.{Query}
use Rattle.tn_explore.specs.Searches.{Explores, answer_entries}
use Rattle.tn_explore.specs.declared.search.Exploration.{Exploration}
use Rattle.tn_messages.specs.MessageViews.{kept_seen, question_of}
use Rattle.tn_search.specs.Sessions.{names_at}
use Rattle.tn_search.specs.declared.exploration.ListingOrder.{ListingOrder}
use Rattle.tn_search.specs.declared.exploration.SearchPlan.{SearchPlan}
use Rattle.tn_search.specs.declared.exploration.ListingOrder.TheVariants.{Total, ByProcess}
use Rattle.tn_messages.specs.declared.kept_listings.KeptListings.{KeptListings}
use Rattle.tn_search.specs.declared.program_state.ProgramState.{ProgramState}

abbrev pub state_journal : {A K F : Type 0} → ProgramState A K F → List ℕ
state_journal s = s.run.journal.items

-- the state is the run of the asked program by its journal, and keeps what is asked of the sessions that are asked
pub record IsStateFor {A K F : Type 0} (Keeps : K → List Tree → Type 0) (b : Bool) (x : code.Program A) (s : ProgramState A K F) (a : Query) : Type 0 where
  pub program : program_of x ≡ a.program
  pub run : IsRun (HasRecorded Keeps) a.program JOURNAL s.run.journal.items s.run
  pub question : a.question ≡ question_of b
  pub sessions : a.sessions ≡ names_at a.program s.places.items

-- the filter admits what is admitted for this question
abbrev pub IsFilterFor : {F : Type 0} → (F → KeptMessages → Bool) → F → Query → Type 0
IsFilterFor Admits f a = (kept : KeptMessages) → a.admits kept ≡ Admits f kept

-- what is asked of the runs of a program that begin with some picks, of the sessions at these places
abbrev pub query_of : (KeptMessages → Bool) → Bool → Program → List ℕ → List ℕ → Query
query_of admits b p before places = record { program = p; before = before; question = question_of b; sessions = names_at p places; admits = admits }

-- the state is the run by these picks alone, of the sessions at these places
abbrev pub IsStateAfter : {A K F : Type 0} → (K → List Tree → Type 0) → Bool → code.Program A → (before places : List ℕ) → ProgramState A K F → Type 0
IsStateAfter Keeps b x before places s = ((admits : KeptMessages → Bool) → IsStateFor Keeps b x s (query_of admits b (program_of x) before places)) × (state_journal s ≡ moves (program_of x) before)

-- whether the messages of a process alone are in an order
abbrev pub is_by_process : ListingOrder → Bool
is_by_process Total = false
is_by_process ByProcess = true

-- the search went through all schedules that begin with some picks, as long as they are followed, until so many states were met; `left` says whether it left out picks
abbrev pub ExploresProgram : {A : Type 0} → Bool → (KeptMessages → Bool) → Bool → Program → List ℕ → List ℕ → ℕ → Exploration A (KeptListings A) → Type 0
ExploresProgram left admits b p before places max_states e = Explores left (query_of admits b p before places) (answer_entries kept_seen e.answers.entries) max_states e.states e.is_complete

-- through those that the plan says
abbrev pub ExploresPlanned : {A : Type 0} → Bool → (KeptMessages → Bool) → Bool → Program → SearchPlan → Exploration A (KeptListings A) → Type 0
ExploresPlanned left admits b p plan = ExploresProgram left admits b p plan.before.now plan.places.now plan.max_states

-- as the plan says
abbrev pub ExploresPlan : {A : Type 0} → (KeptMessages → Bool) → Program → SearchPlan → Exploration A (KeptListings A) → Type 0
ExploresPlan admits p plan = ExploresPlanned plan.reduces admits (is_by_process plan.order) p plan
