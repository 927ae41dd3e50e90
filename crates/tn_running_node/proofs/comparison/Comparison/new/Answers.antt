use Rattle.std.proofs.Common.{◌∙◌, List, [], length, map, sym, ap, subst, true, None}
use Rattle.std.proofs.lemmas.List.{length-map}
use Rattle.std.specs.Option.{option_map}
use Rattle.def_term.specs.Alive.{Alive}
use Rattle.def_script.specs.Exports.{exports_of}
use Rattle.def_script.specs.Script.{creations}
use Rattle.def_session.specs.State.{alive_at_start}
use Rattle.def_running_node.specs.NodeRuns as runs
use Rattle.def_running_node.specs.NodeComparisons.{comparison_at_start}
use Rattle.tn_term.specs.Views.{alive_of}
use Rattle.tn_program.specs.Views.{program_of}
use Rattle.tn_script.specs.Views.{entry_of}
use Rattle.tn_trace.specs.Slots.{EachPair}
use Rattle.tn_running_node.specs.Pairs.{IsPair}
use Rattle.tn_running_node.specs.Views.{signal_seen}
use Rattle.tn_running_node.proofs.AbsentPairs.{pairs_at_start}
use Rattle.tn_running_node.proofs.comparison.Comparison.new.Goals as goal

-- a run where these processes live, and that nobody has left
abbrev run-with : Alive → List runs.Signal → runs.NodeRun
run-with living xs = record { alive = living; signals = xs; ended = None; is_determined = true }

pub returns : goal.returns
returns g c =
    let p = program_of c.args.program.now in
    let o = exports_of p in
    let n = option_map (λ s. s.now) c.args.session in
    let size = sym (length-map c.entries.result.now entry_of) ∙ ap length c.entries.ensures.value in
    record {
      run = ap (λ xs. run-with (alive_of c.first.result) (map signal_seen xs)) c.new.ensures.items ∙ ap (λ living. run-with living []) (c.first.ensures ∙ ap alive_at_start size);
      pairs = subst (EachPair (IsPair o (alive_at_start o.processes)) (comparison_at_start n p).sessions) (sym c.in_ok-pairs.ensures)
          (pairs_at_start o n 1 (creations p.commands) c.in_ok-slots.slots.items c.in_ok-slots.ensures);
    }
