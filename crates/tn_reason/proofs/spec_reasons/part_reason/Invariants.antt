use Rattle.std.proofs.Common.{◌≡◌, drop}
use Rattle.def_explain.specs.SpecReasons.{expression_reason, reason_after}
use Rattle.tn_term.specs.Views.{trees_of}
use Rattle.tn_spec.specs.Names.{position_seen}
use Rattle.tn_spec.specs.Readings.{head_in}
use Rattle.tn_spec.specs.Views.{dialect_of}
use Rattle.tn_reason.specs.SpecReasons.{part_reason_of}
use Rattle.tn_reason.proofs.spec_reasons.part_reason.Given as goal

abbrev pub invariant-loop-i : goal.invariant-loop-i
invariant-loop-i g l =
    reason_after (expression_reason (dialect_of l.dialect) (position_seen l.part) (head_in l.head)) l.i (trees_of (drop l.i l.terms.items)) ≡ part_reason_of l.dialect l.part (head_in l.head) l.terms
