-- A session of a running node sees an event.
use Rattle.std.proofs.Common.{◌≡◌, ◌∙◌, map, sym, ap, Option, Some, None, ℕ}
use Rattle.std.specs.Option.{IsSomeAnd}
use Rattle.std.specs.declared.vec.Vec.{Vec}
use Rattle.def_term.specs.Text.{w}
use Rattle.def_term.specs.Tree.{Tree}
use Rattle.def_session.specs.State as definition
use Rattle.def_running_node.specs.NodeSessions.{marks_after, reported_there}
use Rattle.tn_flags.specs.Views.{event_of}
use Rattle.tn_flags.specs.declared.event.Event.{Event}
use Rattle.tn_node.specs.Outlooks.{outlook_seen}
use Rattle.tn_node.specs.declared.outlook.Outlook.{Outlook}
use Rattle.tn_session.specs.Sessions.{SessionValue, value_in}
use Rattle.tn_session.specs.declared.message.Message.{Message}
use Rattle.tn_running_node.specs.Messages.{sight_of, run_messages_by}
use Rattle.tn_running_node.specs.NodeSessions.{SeesThere, SeesThereFrom}
use Rattle.tn_running_node.specs.SameMessages.{IsMessageOfEvent, lines_there}
use Rattle.tn_running_node.specs.Views.{node_marks_seen, node_run_seen}
use Rattle.tn_running_node.specs.declared.node_run.NodeRun.{NodeRun}
use Rattle.tn_running_node.specs.declared.node_session.NodeSession.{NodeSession}
use Rattle.tn_running_node.proofs.Sessions.{IsReportedThere}
use Rattle.tn_running_node.proofs.Sights.{messages_by_sight}

module _ {A : Type 0} (r : NodeRun A) (l : Outlook) (e : Event A) (here : Option (Message A)) (old new : NodeSession A) (lines : Option (Vec (Vec ℕ A) A)) (s t : definition.Session) (m : Option Tree) (messages : IsMessageOfEvent e here → lines_there here lines ≡ map w (run_messages_by (node_run_seen r) (outlook_seen l) (node_marks_seen old.marks) (sight_of s t (event_of e)) (event_of e) m)) (marks : node_marks_seen new.marks ≡ marks_after t (node_marks_seen old.marks) (event_of e)) where
  of-value : (v : SessionValue) → IsReportedThere s t (event_of e) m (value_in new.session) v → SeesThereFrom r l e here old new lines v (reported_there v.state (event_of e))
  of-value v h = record {
    session = h.next;
    marks = marks ∙ ap (λ (q : definition.Session). marks_after q (node_marks_seen old.marks) (event_of e)) h.seen;
    messages = λ its.
        messages its
        ∙ ap (λ (q : definition.Session). map w (run_messages_by (node_run_seen r) (outlook_seen l) (node_marks_seen old.marks) (sight_of q t (event_of e)) (event_of e) m)) (sym h.state)
        ∙ ap (λ (q : definition.Session). map w (run_messages_by (node_run_seen r) (outlook_seen l) (node_marks_seen old.marks) (sight_of v.state q (event_of e)) (event_of e) m)) h.seen
        ∙ ap (λ n. map w (run_messages_by (node_run_seen r) (outlook_seen l) (node_marks_seen old.marks) (sight_of v.state (reported_there v.state (event_of e)).0 (event_of e)) (event_of e) n)) h.message
        ∙ ap (map w) (sym (messages_by_sight (node_run_seen r) (outlook_seen l) (record { session = v.state; marks = node_marks_seen old.marks }) (reported_there v.state (event_of e)).0 (event_of e) (reported_there v.state (event_of e)).1));
  }

  pub sees_there : IsSomeAnd (value_in old.session) (IsReportedThere s t (event_of e) m (value_in new.session)) → SeesThere r l e here old new lines
  sees_there h = go (value_in old.session) h
    where
      go : (o : Option SessionValue) → IsSomeAnd o (IsReportedThere s t (event_of e) m (value_in new.session)) → IsSomeAnd o (λ v. SeesThereFrom r l e here old new lines v (reported_there v.state (event_of e)))
      go None k = k
      go (Some v) k = of-value v k
