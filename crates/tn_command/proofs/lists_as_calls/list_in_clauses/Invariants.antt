use Rattle.std.proofs.Common.{◌≡◌, drop}
use Rattle.def_explain.specs.SpecReasons.{reason_after}
use Rattle.tn_term.specs.Views.{trees_of}
use Rattle.tn_command.specs.SpecNotes.{list_in_clause}
use Rattle.tn_command.proofs.lists_as_calls.list_in_clauses.Given as goal

abbrev pub invariant-loop-i : goal.invariant-loop-i
invariant-loop-i g l = reason_after list_in_clause l.i (trees_of (drop l.i l.clauses.items)) ≡ reason_after list_in_clause 0 (trees_of l.clauses.items)
