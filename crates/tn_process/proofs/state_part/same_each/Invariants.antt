use Rattle.std.proofs.Common.{◌≡◌, length}
use Rattle.tn_script.proofs.Equal.{EqualSo}
use Rattle.tn_process.proofs.state_part.same_each.Given as goal

abbrev pub invariant-loop-i : goal.invariant-loop-i
invariant-loop-i g l = record {
  lengths : length l.fn.one ≡ length l.fn.other;
  rest : EqualSo g.P.StatePart.seen l.fn.one l.fn.other l.i;
}
