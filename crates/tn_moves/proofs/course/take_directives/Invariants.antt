use Rattle.std.proofs.Common.{ℕ, List, take}
use Rattle.tn_program.specs.Views.{program_of}
use Rattle.tn_trace.specs.Follows.{Follows}
use Rattle.tn_trace.specs.Within.{EndsWithin}
use Rattle.tn_trace.specs.declared.run.Extent.TheVariants.{All}
use Rattle.tn_moves.specs.Drives.{tries_of}
use Rattle.tn_moves.proofs.course.take_directives.Given as goal

abbrev pub invariant-loop-directive : goal.invariant-loop-directive
invariant-loop-directive g l = record {
  taken : (limit : ℕ) (before : List ℕ) → Follows g.O.Observer.sees (program_of l.program) limit before l.initial.run → (g.B.Bound.exceeds l.bound l.initial.run.observer → ⊥)
      → EndsWithin g.O.Observer.sees g.O.Observer.adds (g.B.Bound.exceeds l.bound) (program_of l.program) limit before (tries_of l.tries (take l.directive-index l.directives)) l.initial.run l.run l.initial.out l.out All;
  reaches : g.O.Observer.reaches l.initial.out l.out;
}
