use Rattle.std.proofs.Common.{◌≡◌, length}
use Rattle.tn_script.proofs.Equal.{EqualSo}
use Rattle.tn_process.proofs.state_part.same_queue.Given as goal

abbrev pub invariant-loop-i : goal.invariant-loop-i
invariant-loop-i g l = record {
  lengths : length l.fn.one.items ≡ length l.fn.other.items;
  rest : EqualSo g.P.StatePart.seen l.fn.one.items l.fn.other.items l.i;
}
