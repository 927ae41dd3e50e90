-- One session: an event, and a command.
use Rattle.std.proofs.Common.{◌≡◌, ◌∙◌, ℕ, Bool, true, false, if◌then◌else◌, List, [], ◌++◌, map, Option, Some, None, refl, sym, ap, subst, append-nil}
use Rattle.std.specs.Str.{bytes_eq}
use Rattle.std.specs.Option.{IsSomeAnd}
use Rattle.def_term.specs.Alive.{Alive}
use Rattle.def_term.specs.Tree.{Tree}
use Rattle.def_script.specs.Program.{Command, session_of}
use Rattle.def_script.specs.Exports.{Exports}
use Rattle.def_node.specs.Event.{Event}
use Rattle.def_session.specs.State.{absent, new_session, alive_after}
use Rattle.def_session.specs.Session.{event_reported}
use Rattle.def_session.specs.Commands.{command_done}
use Rattle.def_run.specs.Run.{event_item, command_item}
use Rattle.def_run.specs.History.{NamedSession, after}
use Rattle.def_explain.specs.Accounts.{Line, event_lines, command_lines}
use Rattle.def_explain.specs.CommandReasons.{CommandReason, command_reason}
use Rattle.def_explain.specs.Runs.{session_lines, makes}
use Rattle.tn_session.specs.Sessions.{SessionValue, value_in, next_session}
use Rattle.tn_session.specs.declared.session.Session.{Session}
use Rattle.tn_node.specs.Outlooks.{outlook_seen}
use Rattle.tn_explain.specs.Lines.{lines_text}
use Rattle.tn_trace.specs.Slots.{IsSession, IsTracked, ObeysOwn}
use Rattle.tn_trace.specs.Tracks.{Track}
use Rattle.tn_trace.specs.declared.slot.Slot.{Slot}
use Rattle.tn_explain.specs.Filters.{selection_seen, is_asked, text_by}
use Rattle.def_explain.specs.Differences.{Difference}
use Rattle.def_explain.specs.CommandDifferences.{command_difference}
use Rattle.tn_explain.specs.LineParts.{reply_lines, uncounted_lines}
use Rattle.tn_trace.specs.NamedSessions.{HasState}
use Rattle.tn_explain.specs.declared.step.Step.{Step}
use Rattle.tn_trace.specs.declared.discard.Discard.{Discard}
use Rattle.tn_explain.proofs.MoveTexts.{lines_wanted, lines_not_wanted}

module _ {A : Type 0} (step : Step) (o : Exports) (living : Alive) (s : NamedSession) (old : Slot A Discard) (h : HasState o living s old) where
  asked_of : (b : Bool) → is_asked step old.name ≡ b → is_asked step s.0 ≡ b
  asked_of b is = ap (is_asked step) (sym h.name) ∙ is

  -- the session is there
  pub is_there : (session : Session A) → old.session ≡ Some session → value_in session ≡ Some (record { functions = o.functions; state = s.1 })
  is_there session is = subst (IsSession o.functions living s.1) is h.session

  absent_is : old.session ≡ None → s.1 ≡ new_session absent living
  absent_is is = subst (IsSession o.functions living s.1) is h.session

  module _ (e : Event) (text : List ℕ) where
    -- the session makes of the event what is between two texts
    abbrev pub HasMade : Slot A Discard → List ℕ → Type 0
    HasMade new text' = HasState o (alive_after living e) (after o s (event_item e)) new × (text' ≡ text ++ text_by step (map (makes s.0) (session_lines o (outlook_seen step.outlook) s (event_item e))))

    pub tells_absent : old.session ≡ None → HasMade old text
    tells_absent is = (
      record { name = h.name; session = subst (IsSession o.functions (alive_after living e) (event_reported s.1 e).0) (sym is) (ap (λ q. (event_reported q e).0) (absent_is is)) },
      sym (ap (λ q. text ++ text_by step (map (makes s.0) (event_lines q (outlook_seen step.outlook) e))) (absent_is is) ∙ append-nil text),
    )

    pub tells_asked : (session : Session A) (text' : List ℕ) → is_asked step old.name ≡ true → value_in session ≡ Some (record { functions = o.functions; state = (event_reported s.1 e).0 }) → text' ≡ text ++ lines_text old.name (event_lines s.1 (outlook_seen step.outlook) e) → HasMade (record old { session = Some session }) text'
    tells_asked session text' filter at written = (
      record { name = h.name; session = at },
      written ∙ ap (λ n. text ++ lines_text n (event_lines s.1 (outlook_seen step.outlook) e)) h.name ∙ ap (λ l. text ++ l) (sym (lines_wanted (selection_seen step.selection.now) step.number s.0 (event_lines s.1 (outlook_seen step.outlook) e) (asked_of true filter))),
    )

    pub tells_only : (before session : Session A) (m : Option Tree) → old.session ≡ Some before → is_asked step old.name ≡ false
        → IsSomeAnd (value_in before) (λ v. next_session v (event_reported v.state e) ≡ (value_in session, m)) → HasMade (record old { session = Some session }) text
    tells_only before session m is filter reports = (
      record { name = h.name; session = sym (ap (λ (p : Option SessionValue × Option Tree). p.0) (subst (λ v. IsSomeAnd v (λ u. next_session u (event_reported u.state e) ≡ (value_in session, m))) (is_there before is) reports)) },
      sym (ap (λ l. text ++ l) (lines_not_wanted (selection_seen step.selection.now) step.number s.0 (event_lines s.1 (outlook_seen step.outlook) e) (asked_of false filter)) ∙ append-nil text),
    )

  -- ---- a command

  abbrev pub track : Track
  track = record { number = old.number; name = s.0; session = s.1; messages = [] }

  pub tracked : IsTracked (λ (k : Discard) (ts : List Tree). Unit {0}) o living track old
  tracked = record { number = refl; name = h.name; session = h.session; kept = tt }

  module _ (c : Command) (text : List ℕ) where
    abbrev pub HasReplied : Slot A Discard → List ℕ → Type 0
    HasReplied new text' = HasState o living (after o s (command_item c)) new × (text' ≡ text ++ text_by step (map (makes s.0) (session_lines o (outlook_seen step.outlook) s (command_item c))))

    abbrev pub Obeyed : Slot A Discard → Option Tree → Type 0
    Obeyed new r = ObeysOwn (λ (k : Discard) (ts : List Tree). Unit {0}) o living track c new r

    stands_so : (new : Slot A Discard) (b : Bool) → bytes_eq s.0 (session_of c) ≡ b → IsTracked (λ (k : Discard) (ts : List Tree). Unit {0}) o living (if b then record track { session = (command_done o s.1 c).0 } else track) new
        → HasState o living (s.0, if b then (command_done o s.1 c).0 else s.1) new
    stands_so new true e k = record { name = k.name; session = k.session }
    stands_so new false e k = record { name = k.name; session = k.session }

    pub stands_after : (new : Slot A Discard) (r : Option Tree) → Obeyed new r → HasState o living (after o s (command_item c)) new
    stands_after new r h = stands_so new (bytes_eq s.0 (session_of c)) refl h.0

    -- a command of another session
    pub obeys_none : (new : Slot A Discard) → Obeyed new None → HasReplied new text
    obeys_none new d = (
      stands_after new None d,
      sym (ap (λ b. text ++ text_by step (map (makes s.0) (if b then command_lines o s.1 c else []))) d.1 ∙ append-nil text),
    )

    -- the reply, why it is this one, and what a node does otherwise
    abbrev pub all_lines : Tree → Option CommandReason → Option Difference → List Line
    all_lines r q x = reply_lines r q ++ uncounted_lines x

    own_lines : (r : Tree) (q : Option CommandReason) (x : Option Difference) (new : Slot A Discard) → Obeyed new (Some r) → (bytes_eq s.0 (session_of c) ≡ true → q ≡ command_reason o s.1 c) → (bytes_eq s.0 (session_of c) ≡ true → x ≡ command_difference o s.1 c)
        → session_lines o (outlook_seen step.outlook) s (command_item c) ≡ all_lines r q x
    own_lines r q x new d why otherwise =
        ap (λ b. if b then command_lines o s.1 c else []) d.1.0 ∙ ap (λ t. all_lines t (command_reason o s.1 c) (command_difference o s.1 c)) (sym d.1.1)
        ∙ ap (λ y. all_lines r y (command_difference o s.1 c)) (sym (why d.1.0)) ∙ ap (all_lines r q) (sym (otherwise d.1.0))

    pub obeys_asked : (r : Tree) (q : Option CommandReason) (x : Option Difference) (new : Slot A Discard) (text' : List ℕ) → is_asked step old.name ≡ true → Obeyed new (Some r) → (bytes_eq s.0 (session_of c) ≡ true → q ≡ command_reason o s.1 c)
        → (bytes_eq s.0 (session_of c) ≡ true → x ≡ command_difference o s.1 c) → text' ≡ text ++ lines_text new.name (all_lines r q x) → HasReplied new text'
    obeys_asked r q x new text' filter d why otherwise written =
        let t = stands_after new (Some r) d in (
          t,
          written ∙ ap (λ n. text ++ lines_text n (all_lines r q x)) t.name ∙ ap (λ ls. text ++ lines_text s.0 ls) (sym (own_lines r q x new d why otherwise))
              ∙ ap (λ l. text ++ l) (sym (lines_wanted (selection_seen step.selection.now) step.number s.0 (session_lines o (outlook_seen step.outlook) s (command_item c)) (asked_of true filter))),
        )

    -- a command of any session, where it isn't asked for
    pub obeys_only : (r : Option Tree) (new : Slot A Discard) → is_asked step old.name ≡ false → Obeyed new r → HasReplied new text
    obeys_only r new filter d = (
      stands_after new r d,
      sym (ap (λ l. text ++ l) (lines_not_wanted (selection_seen step.selection.now) step.number s.0 (session_lines o (outlook_seen step.outlook) s (command_item c)) (asked_of false filter)) ∙ append-nil text),
    )
