use Rattle.std.proofs.Common.{◌≡◌, drop}
use Rattle.def_term.specs.Tree.{elements}
use Rattle.def_explain.specs.SpecReasons.{first_reason}
use Rattle.def_explain.specs.CommandReasons.{other_than_flag}
use Rattle.tn_term.specs.Views.{trees_of}
use Rattle.tn_command_reason.proofs.command_reasons.other_than_flag.Given as goal

abbrev pub invariant-loop-i : goal.invariant-loop-i
invariant-loop-i g l = first_reason other_than_flag (elements (trees_of (drop l.i l.items.items))) ≡ first_reason other_than_flag (elements (trees_of l.items.items))
