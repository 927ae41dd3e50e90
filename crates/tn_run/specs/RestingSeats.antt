-- Seats of a journal after which nothing moves.
-- Depends on what a seat has seen, and on which picks are idle.
use Rattle.std.specs.Prelude.{◌≡◌, ◌⊎◌, ℕ, ◌<◌, List, length, slice_index_or, All, IfSome, Option}
use Rattle.def_script.specs.Program.{Program}
use Rattle.def_run.specs.Run.{JOURNAL, moves}
use Rattle.def_run.specs.Round.{pass}
use Rattle.def_run.specs.Laws.{IsIdleAfter}
use Rattle.def_run.specs.Listing.{program_output}
use Rattle.tn_moves.specs.Schedules.{IsAtRest}
use Rattle.tn_live.specs.declared.entry.Entry.{Entry}
use Rattle.tn_live.specs.Journal.{picks_of}
use Rattle.tn_live.specs.States.{SeatState}
use Rattle.tn_live.specs.SeatTurns.{FollowsEntries}
use Rattle.tn_live.specs.ClosedJournals.{made_in_all}

-- the seat has then seen a journal of this length, after which the pick is idle
pub record IdlesAt (p : Program) (pick : ℕ) (old new : SeatState) (front : ℕ) : Type 0 where
  pub follows : FollowsEntries old new.seen
  pub length_told : front ≡ length new.seen
  pub idle : IsIdleAfter p (picks_of new.seen) pick

-- the seat has seen a journal of this length, after which these picks are idle
pub record SeatIsStill (p : Program) (front : ℕ) (tried : List ℕ) (s : SeatState) : Type 0 where
  pub length_seen : length s.seen ≡ front
  pub idle : All (IsIdleAfter p (picks_of s.seen)) tried

-- the same, where there is such a length
abbrev pub IsStillWhere : Program → SeatState → Option ℕ → Type 0
IsStillWhere p s front = IfSome front (λ n. SeatIsStill p n pass s)

-- the seat has seen all that the seats made, after which no pick of a pass moves; or a full journal
abbrev pub HasSettled : Program → List SeatState → SeatState → Type 0
HasSettled p seats s = SeatIsStill p (made_in_all seats) pass s ⊎ (length s.seen ≡ JOURNAL)

-- the first seat has
pub record IsSettled (p : Program) (seats : List SeatState) : Type 0 where
  pub some : 0 < length seats
  pub first : (d : SeatState) → HasSettled p seats (slice_index_or seats 0 d)

-- the picks of a journal after which none of a pass moves, with their output
pub record RunsToRest (p : Program) (picks output : List ℕ) : Type 0 where
  pub at_rest : IsAtRest p picks
  pub written : output ≡ program_output p picks

-- the picks of a closed journal, with their output
pub record IsClosedOutput (p : Program) (entries : List Entry) (picks output : List ℕ) : Type 0 where
  pub picked : picks ≡ picks_of entries
  pub moved : moves p picks ≡ picks
  pub written : output ≡ program_output p picks
