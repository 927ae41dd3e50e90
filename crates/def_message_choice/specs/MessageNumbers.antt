-- The move of a run at which a session sends its trace message of a number (own).
-- Depends on the moves of a run and on listings. Messages and moves are counted from 1.
use Rattle.std.specs.Prelude.{◌≡◌, ◌<◌, ℕ, zero, suc, if◌then◌else◌, List, [], ◌∷◌, ◌++◌, length, take, slice_get, Option, Some, None}
use Rattle.std.specs.Option.{is_some}
use Rattle.def_term.specs.Tree.{Tree}
use Rattle.def_term.specs.Names.{Name}
use Rattle.def_script.specs.Program.{Program}
use Rattle.def_run.specs.Run.{moves}
use Rattle.def_run.specs.Listing.{messages}

-- the message of this number in a listing
abbrev pub message_of_number : ℕ → List Tree → Option Tree
message_of_number zero ts = None
message_of_number (suc i) ts = slice_get ts i

-- ---- the move

-- the session sends this message, its k-th, at the move m of a run: after the moves before this one its listing has no k-th message, and after this one it has this one there
pub record SendsAtMove (s : Name) (k : ℕ) (p : Program) (picks : List ℕ) (m : ℕ) (t : Tree) : Type 0 where
  pub earlier : ℕ
  pub next : m ≡ suc earlier
  pub moves_so : earlier < length (moves p picks)
  pub none_before : message_of_number k (messages s p (take earlier (moves p picks))) ≡ None
  pub sent : message_of_number k (messages s p (take m (moves p picks))) ≡ Some t

-- the run has such a move
abbrev pub IsMoveOfMessage : Name → ℕ → Program → List ℕ → ℕ → Type 0
IsMoveOfMessage s k p picks m = (t : Tree) × SendsAtMove s k p picks m t

-- ---- the same, computed

-- of moves that come after others: the first after which the listing has a k-th message
abbrev pub move_after : Name → ℕ → Program → (before later : List ℕ) → Option ℕ
move_after s k p before [] = None
move_after s k p before (pick ∷ later) =
    if is_some (message_of_number k (messages s p (before ++ pick ∷ []))) then Some (suc (length before)) else move_after s k p (before ++ pick ∷ []) later

-- the move at which the session sends its k-th message, where it sends so many
abbrev pub move_of_message : Name → ℕ → Program → List ℕ → Option ℕ
move_of_message s k p picks = move_after s k p [] (moves p picks)
