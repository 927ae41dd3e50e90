use Rattle.std.proofs.Common.{arith, ◌≡◌, ◌-◌, ◌<◌, ◌≤◌, true, refl}
use Rattle.std.proofs.lemmas.Bool.Decides.{nat_tests}
use Rattle.def_turns.specs.Slots.{is_slot}
use Rattle.tn_pool.proofs.Moves.{begins}
use Rattle.tn_pool.proofs.QueueSlots.{control_first, unfilled, holds_next, filled_on, numbers_at}
use Rattle.tn_pool.proofs.turns.RunQueue.full.Goals as goal

pub new_as-requires : goal.new_as-requires
new_as-requires g c = begins

pub put-requires-clause-slot : goal.put-requires-clause-slot
put-requires-clause-slot g c = (refl, holds_next _ _ _ _ control_first (unfilled _ c.in_ok-queue.ensures.2))

pub loop-pid-init : goal.loop-pid-init
loop-pid-init g c = (c.put.ensures.same, (64, refl, filled_on _ _ _ _ _ control_first (unfilled _ c.in_ok-queue.ensures.2) c.in_ok-put.ensures.gives))

pub put-requires-in-loop-pid-clause-slot : goal.put-requires-in-loop-pid-clause-slot
put-requires-in-loop-pid-clause-slot g c =
    let i = c.loop-pid.invariant in
    let low : 100 ≤ c.loop-pid.pid = c.loop-pid.auto.pid in
    let high : c.loop-pid.pid < 164 = c.loop-pid-test.true in
    let s : is_slot c.loop-pid.pid ≡ true = grind (arith, nat_tests) in
    (s, holds_next _ _ _ _ (numbers_at c.loop-pid.pid i.1.0 (omega (arith, i.1.1, high))) i.1.2)

pub loop-pid-preserved : goal.loop-pid-preserved
loop-pid-preserved g c =
    let i = c.loop-pid.invariant in
    let high : c.loop-pid.pid < 164 = c.loop-pid-test.true in (
      c.put-in-loop-pid.ensures.same,
      (i.1.0 - 1, omega (arith, i.1.1, high), filled_on _ _ _ _ _ (numbers_at c.loop-pid.pid i.1.0 (omega (arith, i.1.1, high))) i.1.2 c.in_ok-put-2.ensures.gives),
    )
