-- Runs by a plan, whatever looks on.
use Rattle.std.specs.Prelude.{ℕ, List, [], ◌∷◌, ◌++◌}
use Rattle.def_script.specs.Program.{Program}
use Rattle.def_run.specs.Run.{moves}
use Rattle.def_run.specs.Laws.{repeat_picks}
use Rattle.tn_trace.specs.Runs.{IsRun}
use Rattle.tn_trace.specs.Follows.{AddsFrom}
use Rattle.tn_trace.specs.Within.{AreTaken, IsBounded}
use Rattle.tn_trace.specs.declared.run.Extent.{Extent}
use Rattle.tn_trace.specs.declared.run.Run.{Run}
use Rattle.tn_moves.specs.declared.directive.Directive.{Directive}
use Rattle.tn_moves.specs.declared.directive.Directive.TheVariants.{Times, UntilIdle, Everybody}
use Rattle.tn_moves.specs.declared.course.Tries.{Tries}
use Rattle.tn_moves.specs.declared.plan.Plan.{Plan}
use Rattle.tn_moves.specs.declared.plan.Plan.TheVariants.{Picks, Directives}

-- which picks are tried for a directive
abbrev pub tries_for : Tries → Directive → List ℕ
tries_for tries (Times count pick) = repeat_picks (pick ∷ []) count
tries_for tries (UntilIdle pick) = repeat_picks (pick ∷ []) tries.most
tries_for tries Everybody = repeat_picks tries.pass.now tries.most

-- and for some of them
abbrev pub tries_of : Tries → List Directive → List ℕ
tries_of tries [] = []
tries_of tries (d ∷ ds) = tries_for tries d ++ tries_of tries ds

-- and for a plan
abbrev pub tries_of_plan : {A : Type 0} → Tries → Plan A → List ℕ
tries_of_plan tries (Picks picks) = picks.now
tries_of_plan tries (Directives limit directives) = tries_of tries directives.items

-- the run is that of these picks, each of which moves; or of the first of them, after which the observer has more than it may have
pub record IsDriven {A O G : Type 0} (Seen : O → Program → List ℕ → Type 0) (Adds : Program → List ℕ → ℕ → O → O → G → G → Type 0) (Exceeds : O → Type 0) (p : Program) (picks : List ℕ) (observer : O) (r : Run A O) (out out' : G) (extent : Extent) : Type 0 where
  pub limit : ℕ
  pub front : List ℕ
  pub taken : AreTaken extent picks front
  pub run : IsRun Seen p limit front r
  pub added : AddsFrom Adds p [] front observer r.observer out out'
  pub bounded : IsBounded extent (Exceeds r.observer)

-- the run is that of those of these picks that move, each of which the observer saw and added to
pub record IsDrivenThrough {A O G : Type 0} (Seen : O → Program → List ℕ → Type 0) (Adds : Program → List ℕ → ℕ → O → O → G → G → Type 0) (p : Program) (picks : List ℕ) (observer : O) (r : Run A O) (out out' : G) : Type 0 where
  pub limit : ℕ
  pub run : IsRun Seen p limit (moves p picks) r
  pub added : AddsFrom Adds p [] (moves p picks) observer r.observer out out'
