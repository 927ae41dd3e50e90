use Rattle.std.proofs.Common.{◌≡◌, ◌+◌, ◌≤◌, drop}
use Rattle.def_text.specs.Places.{line_feeds, column_from}
use Rattle.tn_refusal.proofs.line_column.place_after.Given as goal

abbrev pub invariant-loop-b : goal.invariant-loop-b
invariant-loop-b l = record {
  lines : l.line + line_feeds (drop l.b-index l.passed) ≡ line_feeds l.passed + 1;
  columns : column_from l.column (drop l.b-index l.passed) ≡ column_from 1 l.passed;
  low : l.line ≤ l.b-index + 1;
  near : l.column ≤ l.b-index + 1;
}
