use Rattle.std.proofs.Common.{◌≡◌, drop}
use Rattle.std.specs.Prelude.{is_some}
use Rattle.def_spec.specs.Flags.{flags_named}
use Rattle.tn_term.specs.Views.{trees_of}
use Rattle.tn_trap.proofs.arguments.are_flags.Given as goal

-- the terms that are left are flags just where all are
abbrev pub invariant-loop-i : goal.invariant-loop-i
invariant-loop-i g l = is_some (flags_named (trees_of (drop l.i l.terms.items))) ≡ is_some (flags_named (trees_of l.terms.items))
