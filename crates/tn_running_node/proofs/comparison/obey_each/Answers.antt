use Rattle.std.proofs.Common.{◌<◌, ◌≤◌, ◌∙◌, length, refl, arith}
use Rattle.std.proofs.Math.ListN.{length-set}
use Rattle.def_running_node.specs.NodeComparisons.{pair_after_command}
use Rattle.tn_term.specs.Views.{alive_of}
use Rattle.tn_flags.specs.Views.{command_of}
use Rattle.tn_text.proofs.Growth.{grows_none, grows_on}
use Rattle.tn_trace.proofs.Places.{each_mapped}
use Rattle.tn_running_node.specs.Comparisons.{command_lines_at}
use Rattle.tn_running_node.specs.Pairs.{IsPair}
use Rattle.tn_running_node.specs.Views.{node_run_seen}
use Rattle.tn_running_node.proofs.PairLoops.{none_yet, one_more, all_of_them}
use Rattle.tn_running_node.proofs.comparison.obey_each.Goals as goal

pub loop-place-init : goal.loop-place-init
loop-place-init g c = record {
  size = refl;
  grows = grows_none c.args.out.now.items;
  made = λ o cs fs h.
      let living = alive_of c.args.run.now.alive in
      let k = command_of c.args.command.now in
      none_yet (λ d t. IsPair o living (pair_after_command o (node_run_seen c.args.run.now) d k) t) (IsPair o living) (command_lines_at o c.args.run.now k) cs c.args.pairs.now.items c.args.out.now c.none-kinds.result h c.none-kinds.ensures.differs c.none-kinds.ensures.open_lines;
}

pub loop-place-preserved : goal.loop-place-preserved
loop-place-preserved g c =
    let l = c.loop-place in
    let v_len = c.args.pairs.now.ok.0 in
    let last = c.len-place-end.ensures in
    let below : l.place < length l.pairs.items = omega (arith, v_len, last, l.invariant.size) in
    record {
      size = length-set l.pairs.items l.place c.obey.new.self ∙ l.invariant.size;
      grows = grows_on l.invariant.grows c.obey.ensures.grows;
      made = λ o cs fs h.
          let living = alive_of c.args.run.now.alive in
          let k = command_of c.args.command.now in
          one_more (λ d t. IsPair o living (pair_after_command o (node_run_seen c.args.run.now) d k) t) (IsPair o living) (command_lines_at o c.args.run.now k) cs l.place l.pairs.items c.index_mut.result.now c.obey.new.self c.args.out.now l.out c.obey.new.out l.kinds c.in_ok-one.one c.join-kinds.result below c.index_mut.ensures.value
          (λ d at. let did = c.in_ok-one.ensures.ok o d fs at in (did.pair, record { written = did.lines.written; differs = did.lines.differs; open_lines = did.lines.open_lines })) c.join-kinds.ensures.differs c.join-kinds.ensures.open_lines (l.invariant.made o cs fs h);
    }

pub returns-in_err-one-clause-grows : goal.returns-in_err-one-clause-grows
returns-in_err-one-clause-grows g c = grows_on c.loop-place.invariant.grows c.obey.ensures.grows

pub returns-clause-ok : goal.returns-clause-ok
returns-clause-ok g c = λ o cs fs h.
    let l = c.loop-place in
    let living = alive_of c.args.run.now.alive in
    let k = command_of c.args.command.now in
    let v_len = c.args.pairs.now.ok.0 in
    let last = c.len-place-end.ensures in
    let past = c.loop-place-test.false in
    let all : length l.pairs.items ≤ l.place = omega (arith, v_len, last, l.invariant.size) in
    let made = all_of_them (λ d t. IsPair o living (pair_after_command o (node_run_seen c.args.run.now) d k) t) (IsPair o living) (command_lines_at o c.args.run.now k) cs l.place l.pairs.items c.args.out.now l.out l.kinds all (l.invariant.made o cs fs h) in
    record { pairs = each_mapped (IsPair o living) (λ d. pair_after_command o (node_run_seen c.args.run.now) d k) cs l.pairs.items made.0; lines = made.1 }
