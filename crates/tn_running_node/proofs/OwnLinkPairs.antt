-- A pair of sessions where a process links itself to itself.
use Rattle.std.proofs.Common.{◌≡◌, ◌∙◌, ℕ, true, [], ◌&&◌, ap, subst, Some, option_to_list}
use Rattle.std.specs.Option.{IsSomeAnd}
use Rattle.std.specs.declared.vec.Vec.{Vec}
use Rattle.def_term.specs.Alive.{Alive}
use Rattle.def_node.specs.Event.{Event}
use Rattle.def_outlook.specs.Outlook.{OwnLink}
use Rattle.def_script.specs.Exports.{Exports}
use Rattle.def_session.specs.Session.{event_reported}
use Rattle.def_running_node.specs.NodeRuns.{lines_by_openness}
use Rattle.def_running_node.specs.NodeComparisons as comparison
use Rattle.def_running_node.specs.NodeComparisons.{texts, own_link_event}
use Rattle.tn_session.specs.Looks.{is_live}
use Rattle.tn_running_node.specs.Lines.{PutsBothLines}
use Rattle.tn_running_node.specs.NodeSessions.{SeesHereFrom, SeesAsHere}
use Rattle.tn_running_node.specs.Pairs.{IsThere, IsPair, SawOwnLink}
use Rattle.tn_running_node.specs.Views.{node_marks_seen, node_run_seen, lines_seen}
use Rattle.tn_running_node.specs.declared.lines.LineKinds.{LineKinds}
use Rattle.tn_running_node.specs.declared.node_run.NodeRun.{NodeRun}
use Rattle.tn_running_node.specs.declared.node_session.NodeSession.{NodeSession}
use Rattle.tn_running_node.specs.declared.pair.SessionPair.{SessionPair}
use Rattle.tn_running_node.proofs.OwnLinks.{own_link_keeps}
use Rattle.tn_running_node.proofs.Phases.{own_link_live, own_pair_live}

module _ {A : Type 0} (r : NodeRun A) (e : Event) (old : SessionPair A) (o : Exports) (living : Alive) (c : comparison.SessionPair) (p : ℕ) (x : OwnLink) (is-own : e ≡ own_link_event p x) (h : IsPair o living c old) (there after : NodeSession A) (lh lt : Vec (Vec ℕ A) A) (is-there : old.there ≡ Some there) (seen : SeesAsHere e there after lt) where
  of-there : SeesHereFrom after.session lt o.functions (event_reported c.there.session e)
  of-there =
      let at : IsThere o.functions living c.there (Some there) = subst (IsThere o.functions living c.there) is-there h.there in
      subst (λ v. IsSomeAnd v (λ u. SeesHereFrom after.session lt u.functions (event_reported u.state e))) at.0 seen.0

  same-state : (event_reported c.there.session e).0 ≡ c.there.session
  same-state = ap (λ f. (event_reported c.there.session f).0) is-own ∙ own_link_keeps c.there.session p x

  pub saw_own_link : (kinds : LineKinds) (out out' : Vec ℕ A) → true ≡ is_live c.here.phase → lines_seen lh ≡ []
      → PutsBothLines old.here.name (lines_by_openness old.is_determined (old.is_determined && r.is_determined) (lines_seen lh) (lines_seen lt)) out out' kinds
      → SawOwnLink o living r e c (record old { there = Some after; is_determined = old.is_determined && r.is_determined }) out out' kinds
  saw_own_link kinds out out' alive none puts =
      let at : IsThere o.functions living c.there (Some there) = subst (IsThere o.functions living c.there) is-there h.there in
      let messages = texts (option_to_list (event_reported c.there.session e).1) in
      record {
        pair = own_pair_live o living (node_run_seen r) c (record old { there = Some after; is_determined = old.is_determined && r.is_determined }) alive (record {
          name = h.name;
          here = h.here;
          there = (of-there.session ∙ ap (λ s. Some (record { functions = o.functions; state = s })) same-state, ap node_marks_seen seen.1 ∙ at.1);
          determined = ap (λ b. b && r.is_determined) h.determined;
        });
        lines = own_link_live (node_run_seen r) c e out out' kinds alive
            (subst (λ n. PutsBothLines n (lines_by_openness c.is_determined (c.is_determined && r.is_determined) [] messages) out out' kinds) h.name
            (subst (λ d. PutsBothLines old.here.name (lines_by_openness d (d && r.is_determined) [] messages) out out' kinds) h.determined
            (subst (λ ls. PutsBothLines old.here.name (lines_by_openness old.is_determined (old.is_determined && r.is_determined) [] ls) out out' kinds) of-there.messages
            (subst (λ ls. PutsBothLines old.here.name (lines_by_openness old.is_determined (old.is_determined && r.is_determined) ls (lines_seen lt)) out out' kinds) none puts))));
      }
