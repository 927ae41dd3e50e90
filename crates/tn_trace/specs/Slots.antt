-- What the code's sessions stand for.
use Rattle.std.specs.Prelude.{◌≡◌, ℕ, zero, suc, ◌∷◌, [], List, Bool, Option, Some, None, true, false, MatchOption}
use Rattle.std.specs.Str.{bytes_eq}
use Rattle.def_term.specs.Alive.{Alive}
use Rattle.def_term.specs.Names.{Mfa}
use Rattle.def_term.specs.Tree.{Tree}
use Rattle.def_script.specs.Program.{Command, session_of}
use Rattle.def_session.specs.State as definition
use Rattle.def_script.specs.Exports.{Exports}
use Rattle.def_session.specs.State.{absent, new_session}
use Rattle.def_session.specs.Commands.{command_done}
use Rattle.tn_session.specs.Sessions.{value_in}
use Rattle.tn_session.specs.declared.session.Session.{Session}
use Rattle.tn_trace.specs.Tracks.{Track, with_command}
use Rattle.tn_trace.specs.declared.slot.Slot.{Slot}

-- a session that isn't there is absent, where these processes live
abbrev pub IsSession : {A : Type 0} → List (Mfa × Bool) → Alive → definition.Session → Option (Session A) → Type 0
IsSession fs living s None = s ≡ new_session absent living
IsSession fs living s (Some session) = value_in session ≡ Some (record { functions = fs; state = s })

-- the slot is this session's, over the functions of the program and where these processes live
pub record IsTracked {A K : Type 0} (Keeps : K → List Tree → Type 0) (o : Exports) (living : Alive) (t : Track) (slot : Slot A K) : Type 0 where
  pub number : slot.number ≡ t.number
  pub name : slot.name ≡ t.name
  pub session : IsSession o.functions living t.session slot.session
  pub kept : Keeps slot.kept t.messages

-- a command was done, with this reply
pub record Obeys {A K : Type 0} (Keeps : K → List Tree → Type 0) (o : Exports) (living : Alive) (t : Track) (c : Command) (new : Slot A K) (reply : Tree) : Type 0 where
  pub tracked : IsTracked Keeps o living (record t { session = (command_done o t.session c).0 }) new
  pub replied : reply ≡ (command_done o t.session c).1

-- a command of another session changes nothing, and gets no reply
abbrev pub ObeysOwn : {A K : Type 0} → (K → List Tree → Type 0) → Exports → Alive → Track → Command → Slot A K → Option Tree → Type 0
ObeysOwn Keeps o living t c new r =
    IsTracked Keeps o living (with_command o c t) new
    × MatchOption r (bytes_eq t.name (session_of c) ≡ false) (λ reply. (bytes_eq t.name (session_of c) ≡ true) × (reply ≡ (command_done o t.session c).1))

-- each of these is of the one beside it
abbrev pub EachPair : {T S : Type 0} → (T → S → Type 0) → List T → List S → Type 0
EachPair P [] [] = Unit {0}
EachPair P [] (s ∷ ss) = ⊥
EachPair P (t ∷ ts) [] = ⊥
EachPair P (t ∷ ts) (s ∷ ss) = P t s × EachPair P ts ss

-- the same, with P of the first n and Q of the others
abbrev pub EachUpTo : {T S : Type 0} → (P Q : T → S → Type 0) → ℕ → List T → List S → Type 0
EachUpTo P Q n [] [] = Unit {0}
EachUpTo P Q n [] (s ∷ ss) = ⊥
EachUpTo P Q n (t ∷ ts) [] = ⊥
EachUpTo P Q zero (t ∷ ts) (s ∷ ss) = Q t s × EachUpTo P Q zero ts ss
EachUpTo P Q (suc n) (t ∷ ts) (s ∷ ss) = P t s × EachUpTo P Q n ts ss
