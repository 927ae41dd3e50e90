use Rattle.std.proofs.Common.{◌≡◌, ℕ, ◌+◌}
use Rattle.crossbeam_deque.specs.Injected.{injector_view, IsInjectorPassOf}
use Rattle.def_turns.specs.Slots.{numbers_from}
use Rattle.tn_pool.proofs.QueueSlots.{IsFilled}
use Rattle.tn_pool.proofs.turns.RunQueue.full.Given as goal

abbrev pub invariant-loop-pid : goal.invariant-loop-pid
invariant-loop-pid g l = IsInjectorPassOf l.queue l.pass × ((n : ℕ) × (n + l.pid ≡ 164) × IsFilled (numbers_from l.pid n) (injector_view l.pass))
