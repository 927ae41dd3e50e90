use Rattle.std.proofs.Common.{◌≡◌, ◌+◌, ◌++◌, drop, map}
use Rattle.def_term.specs.Alive.{FIRST_PID}
use Rattle.def_notice.specs.MovesTexts.{starts_after, starts_text}
use Rattle.tn_text.specs.Writes.{Grows}
use Rattle.tn_notice.specs.MovesViews.{entry_name}
use Rattle.tn_notice.proofs.moves.put_starts.Given as goal

abbrev pub invariant-loop-i : goal.invariant-loop-i
invariant-loop-i g l = record {
  written : l.out.items ++ starts_after l.between (FIRST_PID + l.i) (drop l.i (map entry_name l.entries)) ≡ l.initial.out.items ++ starts_text (map entry_name l.entries);
  grows : Grows l.initial.out.items l.out.items;
}
