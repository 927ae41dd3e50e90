use Rattle.std.proofs.Common.{◌≡◌, ◌++◌, drop, map}
use Rattle.tn_spec.specs.Views.{expr_seen}
use Rattle.tn_compile.proofs.FoldedParts.{folds}
use Rattle.tn_compile.proofs.folds.+fold.Given as goal

abbrev pub invariant-folded_exprs-loop-index : goal.invariant-folded_exprs-loop-index
invariant-folded_exprs-loop-index g l = map expr_seen l.folded.items ++ folds (drop l.index l.exprs.items) ≡ folds l.exprs.items
