-- What the code's observer of messages stands for, and what it adds of one more pick (own).
use Rattle.std.specs.Prelude.{◌≡◌, ℕ, List, [], ◌∷◌, ◌++◌, length, map}
use Rattle.std.specs.declared.vec.Vec.{Vec}
use Rattle.def_script.specs.Program.{Program}
use Rattle.def_script.specs.Script.{creations}
use Rattle.def_formats.specs.MessageMoves.{message_count_after, moves_by}
use Rattle.tn_trace.specs.Recorders.{HasRecorded}
use Rattle.tn_message_moves.specs.Tallies.{CountsMessages, tallies_seen}
use Rattle.tn_message_moves.specs.declared.counter.MoveCounter.{MoveCounter}

-- it has counted the messages of the program's run by these picks
abbrev pub HasCounted : {A : Type 0} → MoveCounter A → Program → List ℕ → Type 0
HasCounted c p picks = HasRecorded CountsMessages c.recorder p picks

-- of each session the moves of its messages, by picks each of which moves
abbrev pub numbered_by : Program → List ℕ → List (List ℕ)
numbered_by p picks = map (λ s. moves_by (message_count_after s.0 p picks) (length picks)) (creations p.commands)

-- the lists have them
abbrev pub HaveNumbers : {A : Type 0} → Vec (Vec ℕ A) A → Program → List ℕ → Type 0
HaveNumbers out p picks = tallies_seen out.items ≡ numbered_by p picks

-- where the lists have those by some picks, they have those by one more
abbrev pub AddsMoveNumber : {A : Type 0} → Program → List ℕ → ℕ → MoveCounter A → MoveCounter A → Vec (Vec ℕ A) A → Vec (Vec ℕ A) A → Type 0
AddsMoveNumber p picks pick old new out out' = HaveNumbers out p picks → HaveNumbers out' p (picks ++ pick ∷ [])
