-- When events left sessions in the same state, and what is kept of the messages of sessions by their places.
-- Depends on what is kept of messages.
use Rattle.std.specs.Prelude.{◌≡◌, ◌&&◌, ℕ, Bool, true, not, IsTrue, List, [], ◌∷◌, ◌++◌, map, slice_get, Option, Some, option_to_list}
use Rattle.def_term.specs.Alive.{Alive}
use Rattle.def_term.specs.Names.{Name, Mfa}
use Rattle.def_term.specs.Tree.{Tree}
use Rattle.def_script.specs.Exports.{Exports}
use Rattle.def_script.specs.Program.{Program}
use Rattle.def_script.specs.Script.{creations}
use Rattle.def_spec.specs.Flags.{receive_flag}
use Rattle.def_session.specs.State as definition
use Rattle.def_session.specs.State.{flags_at}
use Rattle.def_explore.specs.Settings.{settings_in}
use Rattle.def_independence.specs.OwnEffects.{session_acts_on_self}
use Rattle.tn_session.specs.declared.session.Session.{Session}
use Rattle.tn_trace.specs.Tracks.{Track}
use Rattle.tn_trace.specs.Slots.{IsSession, IsTracked, EachPair}
use Rattle.tn_trace.specs.declared.slot.Slot.{Slot}
use Rattle.tn_messages.specs.MessageViews.{kept_lists}

-- where it is true, sessions of the definitions with the same settings, where the same processes live, are the same
abbrev pub IsSameSession : {A : Type 0} → Option (Session A) → Option (Session A) → Bool → Type 0
IsSameSession one other result =
    IsTrue result → (fs : List (Mfa × Bool)) (living others : Alive) (s t : definition.Session) → living ≡ others → settings_in s ≡ settings_in t
    → IsSession fs living s one → IsSession fs others t other → s ≡ t

-- two sessions with their messages are the same, and so is what is kept of these
pub record IsSameTrack (b : Bool) (t u : Track) : Type 0 where
  pub session : t.session ≡ u.session
  pub kept : kept_lists b (t.messages ∷ []) ≡ kept_lists b (u.messages ∷ [])

-- of whichever sessions with the same settings the slots are, where the same processes live, these are the same
abbrev pub IsSameSlot : {A K : Type 0} → (K → List Tree → Type 0) → Bool → Slot A K → Slot A K → Type 0
IsSameSlot Keeps b one other =
    (o : Exports) (living others : Alive) (t u : Track) → living ≡ others → settings_in t.session ≡ settings_in u.session
    → IsTracked Keeps o living t one → IsTracked Keeps o others u other → IsSameTrack b t u

-- that is so of the slots at a place, where both lists have it
abbrev pub AreSameAt : {A K : Type 0} → (K → List Tree → Type 0) → Bool → List (Slot A K) → List (Slot A K) → ℕ → Type 0
AreSameAt {A} {K} Keeps b ones others n = (s t : Slot A K) → slice_get ones n ≡ Some s → slice_get others n ≡ Some t → IsSameSlot Keeps b s t

-- ---- by places

-- the element at a place, where there is one
abbrev pub element_at : {X : Type 0} → ℕ → List X → List X
element_at n xs = option_to_list (slice_get xs n)

-- those of the elements that there are at these places
abbrev pub elements_at : {X : Type 0} → List ℕ → List X → List X
elements_at [] xs = []
elements_at (n ∷ ns) xs = element_at n xs ++ elements_at ns xs

-- the names of the sessions at these places of the control list, counted from 0
abbrev pub names_at : Program → List ℕ → List Name
names_at p places = map (λ s. s.0) (elements_at places (creations p.commands))

-- these are what is kept of these lists of messages
abbrev pub AreSinksOf : {K : Type 0} → (K → List Tree → Type 0) → List (List Tree) → List K → Type 0
AreSinksOf Keeps mss sinks = EachPair (λ ms k. Keeps k ms) mss sinks

-- those of some sessions
abbrev pub track_messages : List Track → List (List Tree)
track_messages ts = map (λ t. t.messages) ts

-- the messages of the session at this place come after others
abbrev pub AddsKept : {A K : Type 0} → (K → List Tree → Type 0) → ℕ → List (Slot A K) → List K → List K → Type 0
AddsKept Keeps n slots old new =
    (o : Exports) (living : Alive) (ts : List Track) (mss : List (List Tree)) → EachPair (IsTracked Keeps o living) ts slots → AreSinksOf Keeps mss old
    → AreSinksOf Keeps (mss ++ track_messages (element_at n ts)) new

-- what is kept of the messages of the sessions at these places
abbrev pub AreKeptAt : {A K : Type 0} → (K → List Tree → Type 0) → List ℕ → List (Slot A K) → List K → Type 0
AreKeptAt Keeps places slots sinks =
    (o : Exports) (living : Alive) (ts : List Track) → EachPair (IsTracked Keeps o living) ts slots → AreSinksOf Keeps (track_messages (elements_at places ts)) sinks

-- ---- sessions that a move of one process leaves free

-- no specification of the session acts on another process than its own, and the process with this pid hasn't the flag `receive` in it
abbrev pub is_free_for : ℕ → definition.Session → Bool
is_free_for n s = session_acts_on_self s && not (flags_at s n receive_flag)

-- where it is true, the session of the definitions is so
abbrev pub IsFreeSession : {A : Type 0} → ℕ → Option (Session A) → Bool → Type 0
IsFreeSession n session result = IsTrue result → (fs : List (Mfa × Bool)) (living : Alive) (s : definition.Session) → IsSession fs living s session → is_free_for n s ≡ true

-- of whichever session the slot at the place is, it is so, where there is one
abbrev pub IsFreeAt : {A K : Type 0} → (K → List Tree → Type 0) → ℕ → List (Slot A K) → ℕ → Type 0
IsFreeAt {A} {K} Keeps n slots place = (slot : Slot A K) → slice_get slots place ≡ Some slot → (o : Exports) (living : Alive) (t : Track) → IsTracked Keeps o living t slot → is_free_for n t.session ≡ true
