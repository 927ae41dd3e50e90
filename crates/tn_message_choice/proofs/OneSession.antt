-- One session: an event, and a command.
use Rattle.std.proofs.Common.{◌≡◌, ◌∙◌, Bool, true, false, ◌&&◌, if◌then◌else◌, List, [], Option, Some, None, refl, sym, ap, subst}
use Rattle.std.specs.Str.{bytes_eq}
use Rattle.std.specs.Option.{IsSomeAnd}
use Rattle.def_term.specs.Alive.{Alive}
use Rattle.def_term.specs.Names.{Name, Mfa}
use Rattle.def_term.specs.Tree.{Tree}
use Rattle.def_script.specs.Program.{Command, session_of}
use Rattle.def_script.specs.Exports.{Exports}
use Rattle.def_node.specs.Event.{Event}
use Rattle.def_session.specs.State as definition
use Rattle.def_session.specs.State.{absent, new_session, alive_after}
use Rattle.def_session.specs.Session.{event_reported}
use Rattle.def_session.specs.Commands.{command_done}
use Rattle.def_run.specs.Run.{event_item, command_item}
use Rattle.def_run.specs.History.{NamedSession, after}
use Rattle.def_explain.specs.RunTexts.{is_session}
use Rattle.def_message_choice.specs.MessageChoices.{MessageChoice, would_match, chooses_message, chooses}
use Rattle.tn_session.specs.Sessions.{SessionValue, value_in, next_session}
use Rattle.tn_session.specs.declared.session.Session.{Session}
use Rattle.tn_trace.specs.NamedSessions.{HasState}
use Rattle.tn_trace.specs.Slots.{IsSession, IsTracked, ObeysOwn}
use Rattle.tn_trace.specs.Tracks.{Track}
use Rattle.tn_trace.specs.declared.discard.Discard.{Discard}
use Rattle.tn_trace.specs.declared.slot.Slot.{Slot}

-- ---- an event

module _ {A : Type 0} (fs : List (Mfa × Bool)) (living : Alive) (s : definition.Session) (e : Event) where
  -- what becomes of it, and the message that it sends
  abbrev pub HasSeen : Option (Session A) → Option Tree → Type 0
  HasSeen new m = IsSession fs (alive_after living e) (event_reported s e).0 new × (m ≡ (event_reported s e).1)

  -- one that is
  pub some_sees : (before new : Session A) (m : Option Tree) → IsSession fs living s (Some before)
      → IsSomeAnd (value_in before) (λ v. next_session v (event_reported v.state e) ≡ (value_in new, m)) → HasSeen (Some new) m
  some_sees before new m is reports =
      let both : next_session (record { functions = fs; state = s }) (event_reported s e) ≡ (value_in new, m) = subst (λ v. IsSomeAnd v (λ u. next_session u (event_reported u.state e) ≡ (value_in new, m))) is reports in
      (sym (ap (λ (p : Option SessionValue × Option Tree). p.0) both), sym (ap (λ (p : Option SessionValue × Option Tree). p.1) both))

-- one that isn't there sends none
pub none_sees : (living : Alive) (s : definition.Session) (e : Event) → s ≡ new_session absent living → ((event_reported s e).0 ≡ new_session absent (alive_after living e)) × (None ≡ (event_reported s e).1)
none_sees living s e is = (ap (λ q. (event_reported q e).0) is, sym (ap (λ q. (event_reported q e).1) is))

-- the slot is in its state afterwards
pub slot_after : {A : Type 0} (o : Exports) (living : Alive) (s : NamedSession) (e : Event) (old : Slot A Discard) (new : Option (Session A)) → HasState o living s old → IsSession o.functions (alive_after living e) (event_reported s.1 e).0 new
    → HasState o (alive_after living e) (after o s (event_item e)) (record old { session = new })
slot_after o living s e old new h is = record { name = h.name; session = is }

-- one that is asked about chooses the event by its message
pub asked_chooses : (c : MessageChoice) (n : Option Name) (e : Event) (s : NamedSession) (name : Name) (would b : Bool) (m : Option Tree) → name ≡ s.0 → is_session n name ≡ true → would ≡ would_match c e → m ≡ (event_reported s.1 e).1
    → b ≡ chooses_message c would m → b ≡ chooses c n (event_item e) s
asked_chooses c n e s name would b m named asked same sent h =
    h ∙ ap (λ w. chooses_message c w m) same ∙ ap (chooses_message c (would_match c e)) sent
    ∙ ap (λ a. a && chooses_message c (would_match c e) (event_reported s.1 e).1) (sym (ap (is_session n) (sym named) ∙ asked))

-- another doesn't
pub another_chooses_none : (c : MessageChoice) (n : Option Name) (e : Event) (s : NamedSession) (name : Name) → name ≡ s.0 → is_session n name ≡ false → false ≡ chooses c n (event_item e) s
another_chooses_none c n e s name named asked = ap (λ a. a && chooses_message c (would_match c e) (event_reported s.1 e).1) (sym (ap (is_session n) (sym named) ∙ asked))

-- ---- a command

module _ {A : Type 0} (o : Exports) (living : Alive) (s : NamedSession) (old : Slot A Discard) (h : HasState o living s old) where
  abbrev pub track : Track
  track = record { number = old.number; name = s.0; session = s.1; messages = [] }

  pub tracked : IsTracked (λ (k : Discard) (ts : List Tree). Unit {0}) o living track old
  tracked = record { number = refl; name = h.name; session = h.session; kept = tt }

  module _ (c : Command) where
    stands_so : (new : Slot A Discard) (b : Bool) → bytes_eq s.0 (session_of c) ≡ b → IsTracked (λ (k : Discard) (ts : List Tree). Unit {0}) o living (if b then record track { session = (command_done o s.1 c).0 } else track) new
        → HasState o living (s.0, if b then (command_done o s.1 c).0 else s.1) new
    stands_so new true e k = record { name = k.name; session = k.session }
    stands_so new false e k = record { name = k.name; session = k.session }

    pub stands_after : (new : Slot A Discard) (r : Option Tree) → ObeysOwn (λ (k : Discard) (ts : List Tree). Unit {0}) o living track c new r → HasState o living (after o s (command_item c)) new
    stands_after new r k = stands_so new (bytes_eq s.0 (session_of c)) refl k.0
