use Rattle.std.proofs.Common.{ℕ, List}
use Rattle.def_run.specs.Laws.{repeat_picks}
use Rattle.tn_program.specs.Views.{program_of}
use Rattle.tn_trace.specs.Follows.{Follows}
use Rattle.tn_trace.specs.Within.{EndsWithin}
use Rattle.tn_trace.specs.declared.run.Extent.TheVariants.{All}
use Rattle.tn_trace.proofs.run.Run.take_times.Given as goal

abbrev pub invariant-loop-turn : goal.invariant-loop-turn
invariant-loop-turn g l = record {
  taken : (limit : ℕ) (before : List ℕ) → Follows g.O.Observer.sees (program_of l.program) limit before l.initial.self → (g.B.Bound.exceeds l.bound l.initial.self.observer → ⊥)
      → EndsWithin g.O.Observer.sees g.O.Observer.adds (g.B.Bound.exceeds l.bound) (program_of l.program) limit before (repeat_picks l.once l.turn) l.initial.self l.self l.initial.out l.out All;
  reaches : g.O.Observer.reaches l.initial.out l.out;
}
