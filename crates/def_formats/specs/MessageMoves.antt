-- At which move each message of a session is sent (own).
-- Depends on runs and listings.
use Rattle.std.specs.Prelude.{◌≤◌, ◌<◌, ℕ, zero, suc, ◌-◌, List, [], ◌++◌, length, map, take, replicate}
use Rattle.def_term.specs.Names.{Name}
use Rattle.def_script.specs.Program.{Program}
use Rattle.def_script.specs.Script.{creations}
use Rattle.def_run.specs.Run.{moves}
use Rattle.def_run.specs.Listing.{messages}

-- how many messages the session s has after the first n of these picks
abbrev pub message_count_after : Name → Program → List ℕ → ℕ → ℕ
message_count_after s p picks n = length (messages s p (take n picks))

-- the numbers of the first n moves, from 1, each as often as there are more messages after it than before it
abbrev pub moves_by : (ℕ → ℕ) → ℕ → List ℕ
moves_by counts zero = []
moves_by counts (suc n) = moves_by counts n ++ replicate (counts (suc n) - counts n) (suc n)

-- the number of the move of each message of the session s, counted from 1
abbrev pub message_moves : Name → Program → List ℕ → List ℕ
message_moves s p picks = let moved : List ℕ = moves p picks in moves_by (message_count_after s p moved) (length moved)

-- of each session of the control list
abbrev pub moves_of_messages : Program → List ℕ → List (List ℕ)
moves_of_messages p picks = map (λ s. message_moves s.0 p picks) (creations p.commands)

-- the message of this number, from 0, isn't there before the move, and is there after it
pub record IsMessageMove (s : Name) (p : Program) (picks : List ℕ) (k move : ℕ) : Type 0 where
  pub moved : move ≤ length (moves p picks)
  pub before : message_count_after s p (moves p picks) (move - 1) ≤ k
  pub after : k < message_count_after s p (moves p picks) move
