-- When one pick after a state is independent of all others.
-- Depends on the states of a search, and on moves that change one process alone.
use Rattle.std.specs.Prelude.{◌≡◌, ◌<◌, ℕ, Bool, true, false, IsTrue, List, [], ◌∷◌, ◌++◌, length}
use Rattle.def_term.specs.Tree.{Tree}
use Rattle.def_run.specs.Run.{JOURNAL}
use Rattle.def_explore.specs.Rests.{KeptMessages}
use Rattle.def_independence.specs.Alone.{have_link, have_unlink}
use Rattle.def_independence.specs.OwnEffects.{sessions_act_on_self, sessions_show_no_receive}
use Rattle.tn_program.specs.Views.{program_of}
use Rattle.tn_program.specs.declared.parts.Program as code
use Rattle.tn_node.specs.Nodes.{taken_in}
use Rattle.tn_explore.specs.Query.{Query, AreFirstFor}
use Rattle.tn_search.specs.ReadyPicks.{has_command_left}
use Rattle.tn_search.specs.States.{IsStateFor, state_journal}
use Rattle.tn_search.specs.declared.program_state.ProgramState.{ProgramState}

-- for whatever is asked, where each run is followed, the pick alone is independent of all others
abbrev pub IsFirstPick : {A K F : Type 0} → (K → List Tree → Type 0) → Bool → code.Program A → ProgramState A K F → ℕ → Type 0
IsFirstPick Keeps b x s pick = (a : Query) → IsStateFor Keeps b x s a → ((kept : KeptMessages) → a.admits kept ≡ true) → AreFirstFor a (state_journal s) (pick ∷ [])

-- no function makes or removes a link, and the journal has room
pub record HasNoLinks {A K F : Type 0} (x : code.Program A) (s : ProgramState A K F) : Type 0 where
  pub links : have_link (program_of x).functions ≡ false
  pub unlinks : have_unlink (program_of x).functions ≡ false
  pub room : length (state_journal s) < JOURNAL

-- messages are asked for by process, and no command is left
pub record HasProcessesAlone {A K F : Type 0} (b : Bool) (x : code.Program A) (s : ProgramState A K F) : Type 0 where
  pub by_process : b ≡ true
  pub commands : has_command_left (length (program_of x).commands) (taken_in s.run.node) ≡ false

-- after these picks no specification of the sessions that are asked acts on another process, and the process with this pid has the flag `receive` in none
pub record AreFreeAfter (a : Query) (picks : List ℕ) (pid : ℕ) : Type 0 where
  pub effects : sessions_act_on_self a.sessions a.program picks ≡ true
  pub receives : sessions_show_no_receive a.sessions a.program picks pid ≡ true

-- for whatever is asked, that is so before the pick and after it
abbrev pub LeavesSessionsFree : {A K F : Type 0} → (K → List Tree → Type 0) → Bool → code.Program A → ProgramState A K F → ℕ → Type 0
LeavesSessionsFree Keeps b x s pick = (a : Query) → IsStateFor Keeps b x s a → AreFreeAfter a (state_journal s) pick × AreFreeAfter a (state_journal s ++ pick ∷ []) pick

-- the pick goes first, where there are no links; `alone` says that there are processes alone
abbrev pub GoesFirst : {A K F : Type 0} → (K → List Tree → Type 0) → Bool → code.Program A → ProgramState A K F → Bool → ℕ → Type 0
GoesFirst Keeps b x s alone pick = HasNoLinks x s → (IsTrue alone → HasProcessesAlone b x s) → IsFirstPick Keeps b x s pick
