use Rattle.std.proofs.Common.{◌<◌, ◌≤◌, ◌∙◌, length, refl, arith}
use Rattle.std.proofs.Math.ListN.{length-set}
use Rattle.def_session.specs.State.{alive_after}
use Rattle.tn_flags.specs.Views.{event_of}
use Rattle.tn_text.proofs.Growth.{grows_none, grows_on}
use Rattle.tn_trace.proofs.Places.{each_mapped}
use Rattle.tn_running_node.specs.Comparisons.{after_event, lines_at}
use Rattle.tn_running_node.specs.Pairs.{IsPair}
use Rattle.tn_running_node.proofs.PairLoops.{none_yet, one_more, all_of_them}
use Rattle.tn_running_node.proofs.comparison.see_each.Goals as goal

pub loop-place-init : goal.loop-place-init
loop-place-init g c = record {
  size = refl;
  grows = grows_none c.args.out.now.items;
  made = λ o living cs h.
      let e = event_of c.args.event.now in
      none_yet (λ d t. IsPair o (alive_after living e) (after_event c.args.step e d) t) (IsPair o living) (lines_at c.args.step e) cs c.args.pairs.now.items c.args.out.now c.none-kinds.result h c.none-kinds.ensures.differs c.none-kinds.ensures.open_lines;
}

pub loop-place-preserved : goal.loop-place-preserved
loop-place-preserved g c =
    let l = c.loop-place in
    let e = event_of c.args.event.now in
    let v_len = c.args.pairs.now.ok.0 in
    let last = c.len-place-end.ensures in
    let below : l.place < length l.pairs.items = omega (arith, v_len, last, l.invariant.size) in
    record {
      size = length-set l.pairs.items l.place c.see.new.self ∙ l.invariant.size;
      grows = grows_on l.invariant.grows c.see.ensures.grows;
      made = λ o living cs h.
          one_more (λ d t. IsPair o (alive_after living e) (after_event c.args.step e d) t) (IsPair o living) (lines_at c.args.step e) cs l.place l.pairs.items c.index_mut.result.now c.see.new.self c.args.out.now l.out c.see.new.out l.kinds c.in_ok-one.one c.join-kinds.result below c.index_mut.ensures.value
          (λ d at. let saw = c.in_ok-one.ensures.ok o living d at in (saw.pair, record { written = saw.lines.written; differs = saw.lines.differs; open_lines = saw.lines.open_lines })) c.join-kinds.ensures.differs c.join-kinds.ensures.open_lines (l.invariant.made o living cs h);
    }

pub returns-in_err-one-clause-grows : goal.returns-in_err-one-clause-grows
returns-in_err-one-clause-grows g c = grows_on c.loop-place.invariant.grows c.see.ensures.grows

pub returns-clause-ok : goal.returns-clause-ok
returns-clause-ok g c = λ o living cs h.
    let l = c.loop-place in
    let e = event_of c.args.event.now in
    let v_len = c.args.pairs.now.ok.0 in
    let last = c.len-place-end.ensures in
    let past = c.loop-place-test.false in
    let all : length l.pairs.items ≤ l.place = omega (arith, v_len, last, l.invariant.size) in
    let made = all_of_them (λ d t. IsPair o (alive_after living e) (after_event c.args.step e d) t) (IsPair o living) (lines_at c.args.step e) cs l.place l.pairs.items c.args.out.now l.out l.kinds all (l.invariant.made o living cs h) in
    record { pairs = each_mapped (IsPair o (alive_after living e)) (after_event c.args.step e) cs l.pairs.items made.0; lines = made.1 }
