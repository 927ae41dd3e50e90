use Rattle.std.proofs.Common.{◌<◌, ◌≤◌, ◌∙◌, length, refl, arith}
use Rattle.std.proofs.Math.ListN.{length-set}
use Rattle.tn_flags.specs.Views.{event_of}
use Rattle.tn_text.proofs.Growth.{grows_none, grows_on}
use Rattle.tn_trace.proofs.Places.{each_mapped}
use Rattle.tn_running_node.specs.Comparisons.{after_own_link_at, own_lines_at}
use Rattle.tn_running_node.specs.Pairs.{IsPair}
use Rattle.tn_running_node.proofs.PairLoops.{none_yet, one_more, all_of_them}
use Rattle.tn_running_node.proofs.comparison.see_own_link_each.Goals as goal

pub loop-place-init : goal.loop-place-init
loop-place-init g c = record {
  size = refl;
  grows = grows_none c.args.out.now.items;
  made = λ o living cs p x own h.
      none_yet (λ d t. IsPair o living (after_own_link_at c.args.run.now d) t) (IsPair o living) (own_lines_at c.args.run.now (event_of c.args.event.now)) cs c.args.pairs.now.items c.args.out.now c.none-kinds.result h c.none-kinds.ensures.differs c.none-kinds.ensures.open_lines;
}

pub loop-place-preserved : goal.loop-place-preserved
loop-place-preserved g c =
    let l = c.loop-place in
    let v_len = c.args.pairs.now.ok.0 in
    let last = c.len-place-end.ensures in
    let below : l.place < length l.pairs.items = omega (arith, v_len, last, l.invariant.size) in
    record {
      size = length-set l.pairs.items l.place c.see_own_link.new.self ∙ l.invariant.size;
      grows = grows_on l.invariant.grows c.see_own_link.ensures.grows;
      made = λ o living cs p x own h.
          one_more (λ d t. IsPair o living (after_own_link_at c.args.run.now d) t) (IsPair o living) (own_lines_at c.args.run.now (event_of c.args.event.now)) cs l.place l.pairs.items c.index_mut.result.now c.see_own_link.new.self c.args.out.now l.out c.see_own_link.new.out l.kinds c.in_ok-one.one c.join-kinds.result below
          c.index_mut.ensures.value
          (λ d at. let saw = c.in_ok-one.ensures.ok o living d p x own at in (saw.pair, record { written = saw.lines.written; differs = saw.lines.differs; open_lines = saw.lines.open_lines })) c.join-kinds.ensures.differs c.join-kinds.ensures.open_lines (l.invariant.made o living cs p x own h);
    }

pub returns-in_err-one-clause-grows : goal.returns-in_err-one-clause-grows
returns-in_err-one-clause-grows g c = grows_on c.loop-place.invariant.grows c.see_own_link.ensures.grows

pub returns-clause-ok : goal.returns-clause-ok
returns-clause-ok g c = λ o living cs p x own h.
    let l = c.loop-place in
    let v_len = c.args.pairs.now.ok.0 in
    let last = c.len-place-end.ensures in
    let past = c.loop-place-test.false in
    let all : length l.pairs.items ≤ l.place = omega (arith, v_len, last, l.invariant.size) in
    let made = all_of_them (λ d t. IsPair o living (after_own_link_at c.args.run.now d) t) (IsPair o living) (own_lines_at c.args.run.now (event_of c.args.event.now)) cs l.place l.pairs.items c.args.out.now l.out l.kinds all (l.invariant.made o living cs p x own h) in
    record { pairs = each_mapped (IsPair o living) (after_own_link_at c.args.run.now) cs l.pairs.items made.0; lines = made.1 }
