-- The lines of a step that links a process with itself.
use Rattle.std.proofs.Common.{◌≡◌, ◌∙◌, ℕ, false, List, [], ◌∷◌, refl, sym, ap, subst, Some, None}
use Rattle.std.specs.Prelude.{map, flat_map}
use Rattle.std.specs.declared.vec.Vec.{Vec}
use Rattle.def_node.specs.Event.{Event}
use Rattle.def_outlook.specs.Outlook.{OwnLink}
use Rattle.def_script.specs.Exports.{Exports}
use Rattle.def_running_node.specs.NodeRuns as runs
use Rattle.def_running_node.specs.NodeComparisons as definition
use Rattle.def_running_node.specs.NodeComparisons.{NamedLine, lines_with_name, own_link_event, pair_after_own_link_in, pair_after_own_link, lines_of_own_link_in, lines_of_own_link, after_own_link}
use Rattle.tn_node.specs.Outlooks.{outlook_seen}
use Rattle.tn_node.specs.declared.outlook.Outlook.{Outlook}
use Rattle.tn_trace.specs.Slots.{EachPair}
use Rattle.tn_running_node.specs.Pairs.{IsPair}
use Rattle.tn_running_node.specs.Comparisons.{PutsNamed, IsComparison, BecomesComparison, SawOwnLinkEach, own_link_lines}
use Rattle.tn_running_node.specs.Views.{node_run_seen}
use Rattle.tn_running_node.specs.declared.comparison.Comparison.{Comparison}
use Rattle.tn_running_node.specs.declared.lines.LineKinds.{LineKinds}
use Rattle.tn_running_node.specs.declared.pair.SessionPair.{SessionPair}
use Rattle.tn_running_node.proofs.PairLoops.{puts_none}

no-lines : (ss : List definition.SessionPair) → flat_map (λ s. lines_with_name s.name []) ss ≡ []
no-lines [] = refl
no-lines (s ∷ ss) = no-lines ss

same-pairs : (r : runs.NodeRun) (ss : List definition.SessionPair) → map (λ s. pair_after_own_link r s None) ss ≡ ss
same-pairs r [] = refl
same-pairs r (s ∷ ss) = ap (λ ts. s ∷ ts) (same-pairs r ss)

-- it is no such step
pub no_own_link : {A : Type 0} (o : Exports) (pick : ℕ) (l : Outlook) (c : definition.Comparison) (k : Comparison A) (out : Vec ℕ A) (kinds : LineKinds) → IsComparison o c k → (outlook_seen l).own_link ≡ None → kinds.differs ≡ false → kinds.is_open ≡ false → BecomesComparison o (after_own_link (outlook_seen l) c) (own_link_lines pick c l) k out out kinds
no_own_link o pick l c k out kinds h none differs closed = record {
  comparison = subst (λ ss. IsComparison o (record c { sessions = ss }) k) (sym (ap (λ x. map (λ s. pair_after_own_link c.run s x) c.sessions) none ∙ same-pairs c.run c.sessions)) h;
  lines = subst (λ ls. PutsNamed ls out out kinds) (sym (ap (λ x. flat_map (λ s. lines_with_name s.name (lines_of_own_link c.run s pick x)) c.sessions) none ∙ no-lines c.sessions)) (puts_none out kinds differs closed);
}

-- it is one
pub own_link_seen_each : {A : Type 0} (o : Exports) (pick : ℕ) (l : Outlook) (c : definition.Comparison) (k : Comparison A) (pairs : Vec (SessionPair A) A) (e : Event) (x : OwnLink) (out out' : Vec ℕ A) (kinds : LineKinds) → IsComparison o c k → (outlook_seen l).own_link ≡ Some x → e ≡ own_link_event pick x
    → SawOwnLinkEach o c.run.alive k.run e c.sessions pairs.items out out' kinds → BecomesComparison o (after_own_link (outlook_seen l) c) (own_link_lines pick c l) (record k { pairs = pairs }) out out' kinds
own_link_seen_each o pick l c k pairs e x out out' kinds h some own saw = record {
  comparison = record {
    run = h.run;
    pairs =
        subst (λ y. EachPair (IsPair o c.run.alive) (map (λ s. pair_after_own_link c.run s y) c.sessions) pairs.items) (sym some)
        (subst (λ (r : runs.NodeRun). EachPair (IsPair o c.run.alive) (map (λ s. pair_after_own_link_in s.here.phase r s) c.sessions) pairs.items) h.run saw.pairs);
  };
  lines =
      subst (λ y. PutsNamed (flat_map (λ s. lines_with_name s.name (lines_of_own_link c.run s pick y)) c.sessions) out out' kinds) (sym some)
      (subst (λ (r : runs.NodeRun). PutsNamed (flat_map (λ s. lines_with_name s.name (lines_of_own_link_in s.here.phase r s (own_link_event pick x))) c.sessions) out out' kinds) h.run
      (subst (λ f. PutsNamed (flat_map (λ s. lines_with_name s.name (lines_of_own_link_in s.here.phase (node_run_seen k.run) s f)) c.sessions) out out' kinds) own saw.lines));
}
