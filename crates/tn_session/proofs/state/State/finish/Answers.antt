use Rattle.std.proofs.Common.{◌∙◌, Some, inl, inr, ap}
use Rattle.std.specs.Option.{option_map}
use Rattle.tn_term.specs.Views.{tree_of}
use Rattle.tn_flags.specs.Views.{call_seen}
use Rattle.tn_session.specs.Views.{mark_kind_seen, state_seen}
use Rattle.tn_session.proofs.MarkLemmas.{mark_case}
use Rattle.tn_session.proofs.state.State.finish.Goals as goal

pub returns-in_ok-mark-in-Called-clause-state : goal.returns-in_ok-mark-in-Called-clause-state
returns-in_ok-mark-in-Called-clause-state g c = λ es marks.
    rw c.in-Called.is (mark_case (state_seen c.args.self.now) (state_seen c.mark.new.self) c.in-Called.pid (call_seen c.in-Called.call) es (Some (mark_kind_seen c.in-Some.kind))
    (marks ∙ ap (option_map mark_kind_seen) c.in-Some.is) c.in_ok-mark-in-Called.ensures.state)

pub returns-in-Returned-clause-state : goal.returns-in-Returned-clause-state
returns-in-Returned-clause-state g c = λ es marks. elim (c.in-Returned.is) [
  | inl x ↦ rw x.2 c.unmark.ensures.state
  | inr x ↦ rw x.3 c.unmark.ensures.state
]

pub returns-in-Exited-clause-state : goal.returns-in-Exited-clause-state
returns-in-Exited-clause-state g c = λ es marks. rw c.in-Exited.is (c.forget.ensures.state (tree_of c.in-Exited.reason))
