-- What the code's finder of a message stands for.
-- Depends on the move at which a session sends its message of a number, and on the code's recorders.
use Rattle.std.specs.Prelude.{◌≡◌, ℕ, List, [], Option, Some, None}
use Rattle.def_script.specs.Program.{Program}
use Rattle.def_message_choice.specs.MessageNumbers.{move_after}
use Rattle.tn_trace.specs.Recorders.{HasRecorded}
use Rattle.tn_message_choice.specs.Counts.{AreSoMany, sent_in, HasNumber, HasNoNumber}
use Rattle.tn_message_choice.specs.declared.finder.MessageFinder.{MessageFinder}

-- it counted the messages of the program's run by these picks, each of which moved, and has the first move after which the session had so many
pub record HasFound {A : Type 0} (f : MessageFinder A) (p : Program) (picks : List ℕ) : Type 0 where
  pub recorded : HasRecorded AreSoMany f.recorder p picks
  pub found : f.found ≡ move_after f.session.now f.number p [] picks

-- a move of this number was made, after which the session sent so many
abbrev pub IsFoundBy : (made k sent : ℕ) → (old new : Option ℕ) → Type 0
IsFoundBy made k sent (Some m) new = new ≡ Some m
IsFoundBy made k sent None None = HasNoNumber k sent
IsFoundBy made k sent None (Some m) = (m ≡ made) × HasNumber k sent

abbrev pub NotesMove : {A : Type 0} → ℕ → MessageFinder A → MessageFinder A → Type 0
NotesMove made old new = IsFoundBy made old.number (sent_in old.session.now old.recorder.slots.items) old.found new.found

-- the same is asked for as before
abbrev pub AsksTheSame : {A G : Type 0} → Program → List ℕ → ℕ → MessageFinder A → MessageFinder A → G → G → Type 0
AsksTheSame p picks pick old new out out' = (new.session ≡ old.session) × (new.number ≡ old.number)
