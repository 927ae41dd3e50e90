use Rattle.std.proofs.Common.{◌+◌, ◌≤◌, length, map}
use Rattle.tn_term.specs.Views.{tree_of}
use Rattle.tn_trace_text.proofs.LinesRead.{ReadTo}
use Rattle.tn_trace_text.proofs.reader.read_trace.Given as goal

abbrev pub invariant-loop-rest : goal.invariant-loop-rest
invariant-loop-rest g l = record {
  within : l.number + length l.rest ≤ length l.text;
  read : ReadTo l.text l.rest l.inside l.number (map tree_of l.messages.items);
}

abbrev pub decreases-loop-rest : goal.decreases-loop-rest
decreases-loop-rest g l = length l.rest
