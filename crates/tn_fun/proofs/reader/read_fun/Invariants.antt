use Rattle.std.proofs.Common.{◌≤◌, ◌-◌, length}
use Rattle.tn_fun.specs.FunStates.{fun_state_seen, IsCountedState}
use Rattle.tn_fun.proofs.FunRuns.{LedTo}
use Rattle.tn_fun.proofs.reader.read_fun.Given as goal

abbrev pub invariant-loop-token : goal.invariant-loop-token
invariant-loop-token g l = record {
  within : l.at ≤ length l.bytes;
  counted : IsCountedState l.bytes l.state;
  led : LedTo l.bytes l.at (fun_state_seen l.bytes l.state);
}

abbrev pub decreases-loop-token : goal.decreases-loop-token
decreases-loop-token g l = length l.bytes - l.at
