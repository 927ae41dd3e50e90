-- The picks of a plan, and the plan of a schedule.
use Rattle.std.specs.Prelude.{◌≡◌, ℕ, List, map, Result, Ok, Err}
use Rattle.def_script.specs.Program.{Program}
use Rattle.def_run.specs.Run.{JOURNAL}
use Rattle.def_moves.specs.Directives.{picks_of_directives}
use Rattle.tn_moves.specs.Directives.{directive_seen}
use Rattle.tn_moves.specs.Schedules.{ScheduleView, ArePicks, AreBadMoves}
use Rattle.tn_moves.specs.declared.directive.Directive.{Directive}
use Rattle.tn_moves.specs.declared.plan.Plan.{Plan}
use Rattle.tn_moves.specs.declared.plan.Plan.TheVariants.{Picks, Directives}
use Rattle.tn_moves.specs.declared.text.MovesFault.{MovesFault}
use Rattle.tn_moves.specs.declared.text.MovesFault.TheVariants.{Refused, OutOfMemory}

-- the picks that are taken of a program
abbrev pub plan_picks : {A : Type 0} → Program → Plan A → List ℕ
plan_picks p (Picks picks) = picks.now
plan_picks p (Directives limit directives) = picks_of_directives p limit (map directive_seen directives.items)

-- how many of them may move
abbrev pub plan_limit : {A : Type 0} → Plan A → ℕ
plan_limit (Picks picks) = JOURNAL
plan_limit (Directives limit directives) = limit

-- the plan has the picks that are asked of a program; or the text of moves is refused. A lack of memory says nothing of it
abbrev pub IsPlanFor : {A : Type 0} → ScheduleView → Program → Result (Plan A) MovesFault → Type 0
IsPlanFor a p (Ok plan) = ArePicks a p (plan_picks p plan)
IsPlanFor a p (Err (Refused r)) = AreBadMoves a p r
IsPlanFor a p (Err OutOfMemory) = Unit {0}

-- the plan has these directives; only memory is lacking else
abbrev pub IsPlanOf : {A : Type 0} → ℕ → List Directive → Result (Plan A) MovesFault → Type 0
IsPlanOf limit ds (Ok (Picks picks)) = ⊥
IsPlanOf limit ds (Ok (Directives n directives)) = (n ≡ limit) × (directives.items ≡ ds)
IsPlanOf limit ds (Err (Refused r)) = ⊥
IsPlanOf limit ds (Err OutOfMemory) = Unit {0}
