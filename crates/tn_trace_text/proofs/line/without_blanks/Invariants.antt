use Rattle.std.proofs.Common.{◌≡◌, ◌≤◌, length, drop, true}
use Rattle.def_text.specs.Tokens.{all_are, is_blank}
use Rattle.tn_trace_text.proofs.line.without_blanks.Given as goal

-- what is after the place is blank
abbrev pub invariant-loop-end : goal.invariant-loop-end
invariant-loop-end l = (l.end ≤ length l.line) × (all_are is_blank (drop l.end l.line) ≡ true)

abbrev pub decreases-loop-end : goal.decreases-loop-end
decreases-loop-end l = l.end
