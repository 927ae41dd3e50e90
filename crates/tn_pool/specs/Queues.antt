-- What a run queue is, and what is in one that has no end yet.
-- Depends on what a pass knows.
use Rattle.std.specs.Prelude.{◌≡◌, ℕ, true, List, []}
use Rattle.crossbeam_deque.specs.Injected.{injector_view, IsInjectorPassOf}
use Rattle.tn_pool.specs.declared.turns.RunQueue.{RunQueue}

-- its pass is the queue's
abbrev pub IsRunQueue : {A : Type 0} → RunQueue A → Type 0
IsRunQueue q = IsInjectorPassOf q.queue q.pass

-- just these slots are in the queue, front first, and none is anywhere else
pub record HoldsAlone {A : Type 0} (q : RunQueue A) (slots : List ℕ) : Type 0 where
  pub alone : (injector_view q.pass).alone ≡ true
  pub queue : (injector_view q.pass).queue ≡ slots
  pub none : (injector_view q.pass).held ≡ []
