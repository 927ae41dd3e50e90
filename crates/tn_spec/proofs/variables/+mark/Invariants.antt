use Rattle.std.proofs.Common.{◌≡◌, drop}
use Rattle.tn_spec.specs.Variables.{marked_all}
use Rattle.tn_spec.specs.Views.{patterns_seen}
use Rattle.tn_spec.proofs.variables.+mark.Given as goal

abbrev pub invariant-mark_all-loop-pattern : goal.invariant-mark_all-loop-pattern
invariant-mark_all-loop-pattern g l = marked_all (patterns_seen (drop l.pattern-index l.pattern-items)) l.table ≡ marked_all (patterns_seen l.patterns.items) l.initial.table
