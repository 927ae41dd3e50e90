use Rattle.std.proofs.Common.{◌≡◌, drop}
use Rattle.def_explain.specs.SpecReasons.{reason_after}
use Rattle.tn_term.specs.Views.{trees_of}
use Rattle.tn_command.specs.SpecNotes.{call_in_list}
use Rattle.tn_command.proofs.lists_as_calls.first_call.Given as goal

abbrev pub invariant-loop-i : goal.invariant-loop-i
invariant-loop-i g l = reason_after call_in_list l.i (trees_of (drop l.i l.terms.items)) ≡ reason_after call_in_list 0 (trees_of l.terms.items)
