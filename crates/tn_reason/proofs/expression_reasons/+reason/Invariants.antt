use Rattle.std.proofs.Common.{◌≡◌}
use Rattle.tn_reason.specs.SpecReasons.{first_reason_of}
use Rattle.tn_reason.proofs.expression_reasons.+reason.Given as goal

abbrev pub invariant-first_reason-loop-i : goal.invariant-first_reason-loop-i
invariant-first_reason-loop-i g l = first_reason_of l.dialect l.part l.head l.terms l.i ≡ first_reason_of l.dialect l.part l.head l.terms l.from
