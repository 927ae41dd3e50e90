-- What one session sees of a run, and a program and its picks without one session (own).
-- Depends on runs.
use Rattle.std.specs.Prelude.{ℕ, zero, suc, Bool, true, not, if◌then◌else◌, List, [], ◌∷◌, filter}
use Rattle.std.specs.Str.{bytes_eq}
use Rattle.def_term.specs.Names.{Name}
use Rattle.def_script.specs.Program.{Command, session_of, Program}
use Rattle.def_script.specs.Exports.{Exports, exports_of}
use Rattle.def_run.specs.Run.{HistoryItem, event_item, command_item, events}

-- an event, or a command to this session
abbrev pub is_own : Name → HistoryItem → Bool
is_own s (event_item e) = true
is_own s (command_item c) = bytes_eq s (session_of c)

-- what a session sees: the exports of the program, and the events with its own commands in their places
pub record View : Type 0 where
  pub opening : Exports
  pub items : List HistoryItem

-- the exports, and the events and commands without the commands of other sessions
abbrev pub view : Name → Program → List ℕ → View
view s p picks = record { opening = exports_of p; items = filter (is_own s) (events p picks) }

-- the commands of other sessions than r
abbrev pub strike_commands : Name → List Command → List Command
strike_commands r cs = filter (λ c. not (bytes_eq r (session_of c))) cs

-- the program without the commands of session r
abbrev pub strike_program : Name → Program → Program
strike_program r p = record p { commands = strike_commands r p.commands }

-- the picks without the picks 0 that took them
abbrev pub strike_picks : Name → List ℕ → List Command → List ℕ
strike_picks r [] cs = []
strike_picks r (zero ∷ picks) [] = zero ∷ strike_picks r picks []
strike_picks r (zero ∷ picks) (c ∷ cs) = let rest : List ℕ = strike_picks r picks cs in if bytes_eq r (session_of c) then rest else zero ∷ rest
strike_picks r (suc n ∷ picks) cs = suc n ∷ strike_picks r picks cs
