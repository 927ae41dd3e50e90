-- What is known of a run queue.
use Rattle.crossbeam_deque.specs.Injected.{injector_view}
use Rattle.tn_pool.specs.declared.rule.Hand.{Hand}
use Rattle.tn_pool.specs.declared.turns.RunQueue.{RunQueue}

-- the slots that it holds beside the queue, whether no end holds any, and what is then in the queue
abbrev pub hand_of : {A : Type 0} → RunQueue A → Hand
hand_of q = injector_view q.pass
