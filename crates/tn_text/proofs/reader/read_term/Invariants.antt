use Rattle.std.proofs.Common.{◌≤◌, ◌-◌, length}
use Rattle.tn_text.specs.Stack.{read_state_of}
use Rattle.tn_text.proofs.TokenReads.{ReadTo}
use Rattle.tn_text.proofs.reader.read_term.Given as goal

abbrev pub invariant-loop-at : goal.invariant-loop-at
invariant-loop-at g l = record {
  within : l.at ≤ length l.bytes;
  read : ReadTo l.bytes l.at (read_state_of l.progress);
}

abbrev pub decreases-loop-at : goal.decreases-loop-at
decreases-loop-at g l = length l.bytes - l.at
