-- What an observer sees of a run, and of the node before each pick.
use Rattle.std.specs.Prelude.{◌≡◌, ℕ, suc, true, List, [], ◌∷◌, ◌++◌, length, map, slice_get, Option, Some, Result, OnOk}
use Rattle.std.specs.declared.alloc.AllocError.{AllocError}
use Rattle.def_script.specs.Program.{Command, Program}
use Rattle.def_run.specs.Run.{HistoryItem, event_item, command_item, moves, run_state_of, pick_step_after}
use Rattle.def_run.specs.Laws.{state_at}
use Rattle.tn_node.specs.Nodes.{NodeValue, node_at}
use Rattle.tn_flags.specs.Views.{event_of, command_of}
use Rattle.tn_flags.specs.declared.event.Event as flags
use Rattle.tn_flags.specs.declared.command.Command as commands
use Rattle.tn_program.specs.Views.{program_of}
use Rattle.tn_program.specs.declared.parts.Program as code
use Rattle.tn_trace.specs.declared.journal.JournalEntry.{JournalEntry}

-- after these picks, each of which moved, the entry's pick moves and shows this
pub record IsNextMove (p : Program) (picks : List ℕ) (entry : JournalEntry) (shown : List HistoryItem) : Type 0 where
  pub all : moves p picks ≡ picks
  pub numbered : entry.number ≡ suc (length picks)
  pub moved : (pick_step_after p picks entry.pick).moved ≡ true
  pub shows : (pick_step_after p picks entry.pick).shown ≡ shown

-- it takes this command of the control list
pub record IsNextCommand (p : Program) (picks : List ℕ) (entry : JournalEntry) (c : Command) : Type 0 where
  pub move : IsNextMove p picks entry (command_item c ∷ [])
  pub place : ℕ
  pub listed : slice_get p.commands place ≡ Some c

-- the observer saw one more pick, and added what it adds of it
pub record SeesMove {O G : Type 0} (Seen : O → Program → List ℕ → Type 0) (Adds : Program → List ℕ → ℕ → O → O → G → G → Type 0) (p : Program) (picks : List ℕ) (pick : ℕ) (old new : O) (out out' : G) : Type 0 where
  pub after : Seen new p (picks ++ pick ∷ [])
  pub added : Adds p picks pick old new out out'

-- whatever picks it saw before, where the next one takes this command
abbrev pub SeesCommand : {A O G : Type 0} → (O → Program → List ℕ → Type 0) → (Program → List ℕ → ℕ → O → O → G → G → Type 0) → code.Program A → JournalEntry → commands.Command A → O → O → G → G → Result (Unit {0}) AllocError → Type 0
SeesCommand Seen Adds program entry command old new out out' result =
    (picks : List ℕ) → Seen old (program_of program) picks → IsNextCommand (program_of program) picks entry (command_of command)
    → OnOk result (SeesMove Seen Adds (program_of program) picks entry.pick old new out out')

-- what an observer keeps of a node is of the program after these picks, whatever they are, where the node is
abbrev pub LooksAhead : {S : Type 0} → (S → Program → List ℕ → ℕ → Type 0) → Option NodeValue → ℕ → S → Type 0
LooksAhead Looks node pick sight = (p : Program) (picks : List ℕ) → node ≡ Some (node_at p (state_at p (run_state_of p picks))) → Looks sight p picks pick

-- the same where the next one shows these events, and the observer kept this of the node before it
abbrev pub SeesEvents : {A S O G : Type 0} → (S → Program → List ℕ → ℕ → Type 0) → (O → Program → List ℕ → Type 0) → (Program → List ℕ → ℕ → O → O → G → G → Type 0) → code.Program A → JournalEntry → S → List (flags.Event A) → O → O → G → G → Result (Unit {0}) AllocError → Type 0
SeesEvents Looks Seen Adds program entry sight events old new out out' result =
    (picks : List ℕ) → Seen old (program_of program) picks → Looks sight (program_of program) picks entry.pick → IsNextMove (program_of program) picks entry (map event_item (map event_of events))
    → OnOk result (SeesMove Seen Adds (program_of program) picks entry.pick old new out out')
