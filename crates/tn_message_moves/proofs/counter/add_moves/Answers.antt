use Rattle.std.proofs.Common.{◌∙◌, ◌<◌, ◌≤◌, length, min, sym, arith}
use Rattle.std.proofs.lemmas.List.{length-map, length-set}
use Rattle.tn_message_moves.specs.Tallies.{slot_counts, tallies_seen}
use Rattle.tn_message_moves.proofs.Numbers.{one_list, all_lists, either_all}
use Rattle.tn_message_moves.proofs.counter.add_moves.Goals as goal

pub index_mut-requires : goal.index_mut-requires
index_mut-requires g c = omega (arith, c.loop-place-test.true, c.min-place-end.ensures, c.len-2.ensures, c.loop-place.invariant.1)

pub loop-place-preserved : goal.loop-place-preserved
loop-place-preserved g c =
    let slots = c.args.slots.now.items in
    let vs = c.loop-place.moves.items in
    let place = c.loop-place.place in
    let in_slots : place < length slots = omega (arith, c.loop-place-test.true, c.min-place-end.ensures, c.len.ensures) in
    let in_lists : place < length vs = omega (arith, c.loop-place-test.true, c.min-place-end.ensures, c.len-2.ensures, c.loop-place.invariant.1) in (
      one_list c.args.number slots vs place c.index.result.now c.index_mut.result.now c.add_move.new.moves in_slots in_lists c.index.ensures c.index_mut.ensures.value c.in_ok-add_move.ensures ∙ c.loop-place.invariant.0,
      length-set vs place c.add_move.new.moves ∙ c.loop-place.invariant.1,
    )

pub returns : goal.returns
returns g c =
    let slots = c.args.slots.now.items in
    let vs = c.loop-place.moves.items in
    let counts = slot_counts slots in
    let lists = tallies_seen vs in
    let end : min (length counts) (length lists) ≤ c.loop-place.place =
    omega (arith, c.loop-place-test.false, c.min-place-end.ensures, c.len.ensures, c.len-2.ensures, c.loop-place.invariant.1, length-map slots (λ s. s.kept.count), length-map vs (λ v. v.items)) in
    sym (all_lists c.args.number counts lists c.loop-place.place (either_all (length counts) (length lists) c.loop-place.place end)) ∙ c.loop-place.invariant.0
