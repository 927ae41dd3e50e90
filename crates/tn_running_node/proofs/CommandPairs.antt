-- A session here and on a node, after a command.
use Rattle.std.proofs.Common.{◌≡◌, ◌∙◌, ℕ, Bool, true, false, if◌then◌else◌, ◌&&◌, List, [], map, refl, sym, ap, subst, Option, Some, None}
use Rattle.std.specs.Str.{bytes_eq}
use Rattle.std.specs.declared.vec.Vec.{Vec}
use Rattle.def_term.specs.Alive.{Alive}
use Rattle.def_term.specs.Tree.{Tree}
use Rattle.def_script.specs.Exports.{Exports, visible}
use Rattle.def_script.specs.Program.{Command, session_of}
use Rattle.def_session.specs.State as definition
use Rattle.def_session.specs.State.{absent, new_session}
use Rattle.def_session.specs.Commands.{CommandResult, command_done}
use Rattle.def_running_node.specs.NodeReplies.{node_command}
use Rattle.def_running_node.specs.NodeRuns.{NodeLine, lines_by_openness}
use Rattle.def_running_node.specs.NodeComparisons as comparison
use Rattle.def_running_node.specs.NodeComparisons.{determined_in, reply_texts, pair_after_command, lines_of_command}
use Rattle.tn_term.specs.Views.{alive_of}
use Rattle.tn_script.specs.Views.{functions_of}
use Rattle.tn_script.specs.declared.form.Function.{Function}
use Rattle.tn_session.specs.Sessions.{SessionValue, value_in, next_session}
use Rattle.tn_session.specs.declared.session.Session.{Session}
use Rattle.tn_trace.specs.Slots.{IsSession, IsTracked, ObeysOwn}
use Rattle.tn_trace.specs.Tracks.{Track}
use Rattle.tn_trace.specs.declared.discard.Discard.{Discard}
use Rattle.tn_trace.specs.declared.slot.Slot.{Slot}
use Rattle.tn_running_node.specs.Lines.{PutsBothLines}
use Rattle.tn_running_node.specs.Pairs.{IsThere, IsPair, DidThere, DidCommand}
use Rattle.tn_running_node.specs.Replies.{IsDoneThere}
use Rattle.tn_running_node.specs.Views.{node_mark_seen, lines_seen, node_run_seen}
use Rattle.tn_running_node.specs.declared.lines.LineKinds.{LineKinds}
use Rattle.tn_running_node.specs.declared.node_mark.NodeMark.{NodeMark}
use Rattle.tn_running_node.specs.declared.node_run.NodeRun.{NodeRun}
use Rattle.tn_running_node.specs.declared.node_session.NodeSession.{NodeSession}
use Rattle.tn_running_node.specs.declared.pair.SessionPair.{SessionPair}
use Rattle.tn_running_node.proofs.Phases.{puts_no_lines}

-- nothing is kept of messages
abbrev pub Keeps : Discard → List Tree → Type 0
Keeps = λ k ts. Unit {0}

absent-same : (o : Exports) (k : Command) (living : Alive) (s : definition.Session) → s ≡ new_session absent living → command_done o s k ≡ node_command o s k
absent-same o k living s is = subst (λ q. command_done o q k ≡ node_command o q k) (sym is) refl

module _ {A : Type 0} (o : Exports) (living : Alive) (k : Command) (old : SessionPair A) (c : comparison.SessionPair) (h : IsPair o living c old) where
  -- ---- here

  abbrev pub track_here : Track
  track_here = record { number = old.here.number; name = c.name; session = c.here; messages = [] }

  pub tracked_here : IsTracked Keeps o living track_here old.here
  tracked_here = record { number = refl; name = h.name; session = h.here; kept = tt }

  module _ (slot : Slot A Discard) where
    of-own : (b : Bool) → bytes_eq c.name (session_of k) ≡ b → IsTracked Keeps o living (if bytes_eq c.name (session_of k) then record track_here { session = (command_done o c.here k).0 } else track_here) slot
        → IsTracked Keeps o living (if b then record track_here { session = (command_done o c.here k).0 } else track_here) slot
    of-own b is t = subst (λ d. IsTracked Keeps o living (if d then record track_here { session = (command_done o c.here k).0 } else track_here) slot) is t

    -- a command of another session
    pub not_own : ObeysOwn Keeps o living track_here k slot None → IsPair o living c (record old { here = slot })
    not_own d = let t = of-own false d.1 d.0 in record { name = t.name; here = t.session; there = h.there; determined = h.determined }

    -- one of its own
    pub own_here : (reply : Tree) → ObeysOwn Keeps o living track_here k slot (Some reply) → IsPair o living (record c { here = (command_done o c.here k).0 }) (record old { here = slot })
    own_here reply d = let t = of-own true d.1.0 d.0 in record { name = t.name; here = t.session; there = h.there; determined = h.determined }

  -- ---- on a node

  -- the session is there
  pub did_there : (functions : List (Function A)) (there : NodeSession A) (after : Session A) (reply : Tree) → o.functions ≡ visible (functions_of functions) → old.there ≡ Some there → IsDoneThere functions k there.session after reply
      → DidThere o living k c (record old { there = Some (record there { session = after }) }) reply
  did_there functions there after reply fs is done =
      let at : IsThere o.functions living c.there (Some there) = subst (IsThere o.functions living c.there) is h.there in
      let v : SessionValue = record { functions = o.functions; state = c.there.session } in
      let made : next_session v (node_command o c.there.session k) ≡ (value_in after, reply) = done o v (record { program = fs; value = at.0; same = refl }) in
      record {
        pair = record { name = h.name; here = h.here; there = (sym (ap (λ (p : Option SessionValue × Tree). p.0) made), at.1); determined = h.determined };
        replied = sym (ap (λ (p : Option SessionValue × Tree). p.1) made);
      }

  -- it isn't created yet
  abbrev pub track_there : Track
  track_there = record { number = old.here.number; name = c.name; session = c.there.session; messages = [] }

  absent-at : old.there ≡ None → (c.there.session ≡ new_session absent living) × (c.there.marks ≡ [])
  absent-at is = subst (IsThere o.functions living c.there) is h.there

  pub tracked_there : (slot : Slot A Discard) → old.there ≡ None → slot.number ≡ old.here.number → slot.name ≡ old.here.name → slot.session ≡ None → IsTracked Keeps o living track_there slot
  tracked_there slot is number name none = record {
    number = number;
    name = name ∙ h.name;
    session = subst (IsSession o.functions living c.there.session) (sym none) (absent-at is).0;
    kept = tt;
  }

  module _ (slot : Slot A Discard) (reply : Tree) (is : old.there ≡ None) (d : ObeysOwn Keeps o living track_there k slot (Some reply)) where
    same : command_done o c.there.session k ≡ node_command o c.there.session k
    same = absent-same o k living c.there.session (absent-at is).0

    after-absent : IsSession o.functions living (node_command o c.there.session k).0 slot.session
    after-absent =
        let t : IsTracked Keeps o living (record track_there { session = (command_done o c.there.session k).0 }) slot =
        subst (λ b. IsTracked Keeps o living (if b then record track_there { session = (command_done o c.there.session k).0 } else track_there) slot) d.1.0 d.0 in
        subst (λ (r : CommandResult). IsSession o.functions living r.0 slot.session) same t.session

    replies : reply ≡ (node_command o c.there.session k).1
    replies = d.1.1 ∙ ap (λ (r : CommandResult). r.1) same

    pub still_absent : slot.session ≡ None → DidThere o living k c old reply
    still_absent none = record {
      pair = record {
        name = h.name;
        here = h.here;
        there = subst (IsThere o.functions living (record c.there { session = (node_command o c.there.session k).0 })) (sym is) (
          subst (IsSession o.functions living (node_command o c.there.session k).0) none after-absent,
          (absent-at is).1,
        );
        determined = h.determined;
      };
      replied = replies;
    }

    pub created_there : (session : Session A) (marks : Vec (NodeMark A) A) → slot.session ≡ Some session → marks.items ≡ [] → DidThere o living k c (record old { there = Some (record { session = session; marks = marks }) }) reply
    created_there session marks some empty = record {
      pair = record {
        name = h.name;
        here = h.here;
        there = (
          subst (IsSession o.functions living (node_command o c.there.session k).0) some after-absent,
          ap (map node_mark_seen) empty ∙ sym (absent-at is).1,
        );
        determined = h.determined;
      };
      replied = replies;
    }

-- ---- both

module _ {A : Type 0} (o : Exports) (r : NodeRun A) (k : Command) (old : SessionPair A) (c : comparison.SessionPair) (h : IsPair o (alive_of r.alive) c old) (slot : Slot A Discard) where
  abbrev pub Replies : Option Tree → Type 0
  Replies reply = ObeysOwn Keeps o (alive_of r.alive) (track_here o (alive_of r.alive) k old c h) k slot reply

  -- what becomes of the pair, and its lines, where the command is its own and where not
  abbrev after : Bool → comparison.SessionPair
  after b = if b then record c { here = (command_done o c.here k).0; there = record c.there { session = (node_command o c.there.session k).0 }; is_determined = determined_in (node_run_seen r) c } else c

  abbrev lines : Bool → List NodeLine
  lines b =
      if b then lines_by_openness c.is_determined (determined_in (node_run_seen r) c) (reply_texts (command_done o c.here k).1) (reply_texts (node_command o c.there.session k).1) else []

  pub did_no_command : (out : Vec ℕ A) (kinds : LineKinds) → Replies None → kinds.differs ≡ false → kinds.is_open ≡ false → DidCommand o r k c (record old { here = slot }) out out kinds
  did_no_command out kinds d differs closed = record {
    pair = subst (λ b. IsPair o (alive_of r.alive) (after b) (record old { here = slot })) (sym d.1) (not_own o (alive_of r.alive) k old c h slot d);
    lines = subst (λ b. PutsBothLines c.name (lines b) out out kinds) (sym d.1) (puts_no_lines c.name out kinds differs closed);
  }

  pub did_command : (new : SessionPair A) (here there : Tree) (lh lt : Vec (Vec ℕ A) A) (out out' : Vec ℕ A) (kinds : LineKinds) → Replies (Some here) → DidThere o (alive_of r.alive) k (record c { here = (command_done o c.here k).0 }) new there
      → lines_seen lh ≡ reply_texts here → lines_seen lt ≡ reply_texts there
      → PutsBothLines new.here.name (lines_by_openness new.is_determined (new.is_determined && r.is_determined) (lines_seen lh) (lines_seen lt)) out out' kinds
      → DidCommand o r k c (record new { is_determined = new.is_determined && r.is_determined }) out out' kinds
  did_command new here there lh lt out out' kinds d after_there of_here of_there puts =
      let at = after_there.pair in
      let lines_here : lines_seen lh ≡ reply_texts (command_done o c.here k).1 = of_here ∙ ap reply_texts d.1.1 in
      let lines_there : lines_seen lt ≡ reply_texts (node_command o c.there.session k).1 = of_there ∙ ap reply_texts after_there.replied in
      record {
        pair =
            let done : IsPair o (alive_of r.alive) (after true) (record new { is_determined = new.is_determined && r.is_determined }) =
            record { name = at.name; here = at.here; there = at.there; determined = ap (λ b. b && r.is_determined) at.determined } in
            subst (λ b. IsPair o (alive_of r.alive) (after b) (record new { is_determined = new.is_determined && r.is_determined })) (sym d.1.0) done;
        lines =
            subst (λ b. PutsBothLines c.name (lines b) out out' kinds) (sym d.1.0)
            (subst (λ n. PutsBothLines n (lines true) out out' kinds) at.name
            (subst (λ b. PutsBothLines new.here.name (lines_by_openness b (b && r.is_determined) (reply_texts (command_done o c.here k).1) (reply_texts (node_command o c.there.session k).1)) out out' kinds) at.determined
            (subst (λ ls. PutsBothLines new.here.name (lines_by_openness new.is_determined (new.is_determined && r.is_determined) (reply_texts (command_done o c.here k).1) ls) out out' kinds) lines_there
            (subst (λ ls. PutsBothLines new.here.name (lines_by_openness new.is_determined (new.is_determined && r.is_determined) ls (lines_seen lt)) out out' kinds) lines_here puts))));
      }
