-- Runs to rest, and what is kept of the messages in them (own).
-- Depends on runs and listings.
use Rattle.std.specs.Prelude.{◌≡◌, ◌==◌, ℕ, Bool, true, false, List, Option, Some, None, map, filter}
use Rattle.def_term.specs.Tree.{Tree, tuple, pid, more}
use Rattle.def_term.specs.Alive.{FIRST_PID, PROCESSES}
use Rattle.def_term.specs.Names.{Name}
use Rattle.def_script.specs.Program.{Program}
use Rattle.def_run.specs.Run.{pick_step_after}
use Rattle.def_run.specs.Round.{pass_from}
use Rattle.def_run.specs.Laws.{IsIdleAfter}
use Rattle.def_run.specs.Listing.{messages}

-- ---- rest

-- after these picks the pick moves
abbrev pub IsMovingAfter : Program → List ℕ → ℕ → Type 0
IsMovingAfter p picks pick = (pick_step_after p picks pick).moved ≡ true

-- after these picks nothing moves, whichever pick comes: no command is left, and each process has exited or waits; or the journal is full
abbrev pub IsRestAfter : Program → List ℕ → Type 0
IsRestAfter p picks = (pick : ℕ) → IsIdleAfter p picks pick

-- ---- questions

-- what is asked of a run: all messages; or those of each process, with no order between processes
pub data RunQuestion : Type 0 where
  all_messages : RunQuestion
  by_process : RunQuestion

-- what is kept of the messages to answer it: they themselves, by session; or by session and process
pub data KeptMessages : Type 0 where
  kept_messages : List (List Tree) → KeptMessages
  kept_by_process : List (List (List Tree)) → KeptMessages

-- the process that a message is of: {trace,Pid,..}
abbrev pub message_process : Tree → Option ℕ
message_process (tuple (more t (more (pid n) ts))) = Some n
message_process _ = None

-- the message is of this process
abbrev pub is_of_process : ℕ → Tree → Bool
is_of_process n (tuple (more t (more (pid m) ts))) = m == n
is_of_process n _ = false

-- the messages of each of these processes, in their order
abbrev pub each_process : List ℕ → List Tree → List (List Tree)
each_process ns ms = map (λ n. filter (is_of_process n) ms) ns

-- the pids that a run gives
abbrev pub all_pids : List ℕ
all_pids = pass_from PROCESSES FIRST_PID

-- what is kept of the messages of these sessions
abbrev pub kept_of : RunQuestion → List Name → (Name → List Tree) → KeptMessages
kept_of all_messages ss ms = kept_messages (map ms ss)
kept_of by_process ss ms = kept_by_process (map (λ s. each_process all_pids (ms s)) ss)

-- what is kept of a run by these picks
abbrev pub kept_in : RunQuestion → List Name → Program → List ℕ → KeptMessages
kept_in q ss p picks = kept_of q ss (λ s. messages s p picks)
