-- A move that takes a command, here and on a node.
use Rattle.std.proofs.Common.{◌≡◌, ◌∙◌, ℕ, [], ◌∷◌, map, sym, ap, subst, append-nil}
use Rattle.std.specs.Prelude.{flat_map}
use Rattle.std.specs.declared.vec.Vec.{Vec}
use Rattle.def_outlook.specs.Outlook as outlook
use Rattle.def_script.specs.Exports.{Exports}
use Rattle.def_script.specs.Program.{Command}
use Rattle.def_run.specs.Run.{command_item}
use Rattle.def_running_node.specs.NodeRuns as runs
use Rattle.def_running_node.specs.NodeRuns.{at_move}
use Rattle.def_running_node.specs.NodeComparisons as definition
use Rattle.def_running_node.specs.NodeComparisons.{lines_with_name, pair_after_command, lines_of_command, after_pick, lines_of_move}
use Rattle.tn_term.specs.Views.{alive_of}
use Rattle.tn_trace.specs.Slots.{EachPair}
use Rattle.tn_running_node.specs.Comparisons.{PutsNamed, IsComparison, BecomesComparison, DidCommandEach}
use Rattle.tn_running_node.specs.Pairs.{IsPair}
use Rattle.tn_running_node.specs.Views.{node_run_seen}
use Rattle.tn_running_node.specs.declared.comparison.Comparison.{Comparison}
use Rattle.tn_running_node.specs.declared.lines.LineKinds.{LineKinds}
use Rattle.tn_running_node.specs.declared.node_run.NodeRun.{NodeRun}
use Rattle.tn_running_node.specs.declared.pair.SessionPair.{SessionPair}

module _ {A : Type 0} (o : Exports) (c : definition.Comparison) (pick : ℕ) (old : Comparison A) (begun : NodeRun A) (h : IsComparison o c old) (begins : node_run_seen begun ≡ at_move (node_run_seen old.run) pick) where
  at-move : node_run_seen begun ≡ at_move c.run pick
  at-move = begins ∙ ap (λ r. at_move r pick) h.run

  same-alive : alive_of begun.alive ≡ c.run.alive
  same-alive = ap (λ (r : runs.NodeRun). r.alive) at-move

  -- who lives stays
  pub pairs_at_move : EachPair (IsPair o (alive_of begun.alive)) c.sessions old.pairs.items
  pairs_at_move = subst (λ living. EachPair (IsPair o living) c.sessions old.pairs.items) (sym same-alive) h.pairs

  pub command_seen_each : (l : outlook.Outlook) (k : Command) (pairs : Vec (SessionPair A) A) (out out' : Vec ℕ A) (kinds : LineKinds) → DidCommandEach o begun k c.sessions pairs.items out out' kinds
      → BecomesComparison o (after_pick o l pick c (command_item k ∷ [])) (lines_of_move o l pick c (command_item k ∷ [])) (record old { run = begun; pairs = pairs }) out out' kinds
  command_seen_each l k pairs out out' kinds did = record {
    comparison = record {
      run = at-move;
      pairs =
          subst (λ (r : runs.NodeRun). EachPair (IsPair o c.run.alive) (map (λ s. pair_after_command o r s k) c.sessions) pairs.items) at-move
          (subst (λ living. EachPair (IsPair o living) (map (λ s. pair_after_command o (node_run_seen begun) s k) c.sessions) pairs.items) same-alive did.pairs);
    };
    lines =
        subst (λ ls. PutsNamed ls out out' kinds) (sym (append-nil (flat_map (λ s. lines_with_name s.name (lines_of_command o (at_move c.run pick) s k)) c.sessions)))
        (subst (λ r. PutsNamed (flat_map (λ s. lines_with_name s.name (lines_of_command o r s k)) c.sessions) out out' kinds) at-move did.lines);
  }
