use Rattle.std.proofs.Common.{◌≡◌, ◌<◌, ◌+◌, suc, arith, refl, sym, subst, length, true, false}
use Rattle.def_machine.specs.Acceptance.{all_below}
use Rattle.tn_code.specs.Views.{instructions_of}
use Rattle.tn_code.specs.Ways.{ways_seen}
use Rattle.tn_code.proofs.Tests.{stops_there, all-fails, all-more, stops-item}
use Rattle.tn_code.proofs.acceptance.sets_before.Goals as goal

pub returns-then-not-stop_at : goal.returns-then-not-stop_at
returns-then-not-stop_at g c =
    let l : c.loop-place.place < length c.args.items.now = omega (arith, c.loop-place-test.true, c.requires.order, c.requires.inside) in
    sym (all-fails (suc c.args.setter) c.loop-place.place (stops_there (instructions_of c.args.items.now) c.args.setter c.args.reader c.args.register) (omega (arith, c.loop-place-test.true))
    (stops-item c.args.items.now c.args.setter c.args.reader c.args.register c.loop-place.place c.index-items-place.result (ways_seen c.ways_of.result) false l c.index-items-place.is c.ways_of.ensures c.if-not-stop_at.ensures))

pub loop-place-preserved : goal.loop-place-preserved
loop-place-preserved g c =
    let l : c.loop-place.place < length c.args.items.now = omega (arith, c.loop-place-test.true, c.requires.order, c.requires.inside) in
    all-more c.loop-place.place (c.loop-place.place + 1) (stops_there (instructions_of c.args.items.now) c.args.setter c.args.reader c.args.register) refl c.loop-place.invariant
    (stops-item c.args.items.now c.args.setter c.args.reader c.args.register c.loop-place.place c.index-items-place.result (ways_seen c.ways_of.result) true l c.index-items-place.is c.ways_of.ensures c.if-not-stop_at.ensures)

pub returns : goal.returns
returns g c =
    let e : c.loop-place.place ≡ suc c.args.setter = omega (arith, c.loop-place-test.false, c.loop-place.auto.place-end) in
    sym (subst (λ n. all_below n (stops_there (instructions_of c.args.items.now) c.args.setter c.args.reader c.args.register) ≡ true) e c.loop-place.invariant)
