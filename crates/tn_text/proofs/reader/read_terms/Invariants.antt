use Rattle.std.proofs.Common.{◌≤◌, ◌-◌, length, map}
use Rattle.tn_term.specs.Views.{tree_of}
use Rattle.def_text.specs.ScriptReading.{reading}
use Rattle.tn_text.specs.Stack.{read_state_of}
use Rattle.tn_text.proofs.Scripts.{ScriptReadTo}
use Rattle.tn_text.proofs.reader.read_terms.Given as goal

abbrev pub invariant-loop-at : goal.invariant-loop-at
invariant-loop-at g l = record {
  within : l.at ≤ length l.bytes;
  read : ScriptReadTo l.bytes l.at (reading (map tree_of l.terms.items) (read_state_of l.progress));
}

abbrev pub decreases-loop-at : goal.decreases-loop-at
decreases-loop-at g l = length l.bytes - l.at
