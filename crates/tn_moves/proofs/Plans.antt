-- The plan of a schedule has the picks that are asked.
use Rattle.std.proofs.Common.{◌∙◌, ℕ, [], ◌∷◌, map, Result, Ok, Err, ap, append-nil}
use Rattle.def_script.specs.Program.{Program}
use Rattle.def_run.specs.Round.{round}
use Rattle.def_moves.specs.Directives.{picks_of_directives}
use Rattle.tn_moves.specs.Directives.{directive_seen}
use Rattle.tn_moves.specs.Plans.{IsPlanFor, IsPlanOf}
use Rattle.tn_moves.specs.Schedules.{by_control_first, by_round}
use Rattle.tn_moves.specs.declared.directive.Directive.TheVariants.{UntilIdle, Everybody}
use Rattle.tn_moves.specs.declared.plan.Plan.{Plan}
use Rattle.tn_moves.specs.declared.plan.Plan.TheVariants.{Picks, Directives}
use Rattle.tn_moves.specs.declared.text.MovesFault.{MovesFault}
use Rattle.tn_moves.specs.declared.text.MovesFault.TheVariants.{Refused, OutOfMemory}

pub round_plan : {A : Type 0} (p : Program) (limit : ℕ) (r : Result (Plan A) MovesFault) → IsPlanOf limit (Everybody ∷ []) r → IsPlanFor (by_round limit) p r
round_plan p limit (Ok (Picks picks)) h = absurd h
round_plan p limit (Ok (Directives n ds)) h = ap (λ k. picks_of_directives p k (map directive_seen ds.items)) h.0 ∙ ap (λ xs. picks_of_directives p limit (map directive_seen xs)) h.1 ∙ append-nil (round p limit)
round_plan p limit (Err (Refused r)) h = h
round_plan p limit (Err OutOfMemory) h = h

pub control_first_plan : {A : Type 0} (p : Program) (limit : ℕ) (r : Result (Plan A) MovesFault) → IsPlanOf limit (UntilIdle 0 ∷ Everybody ∷ []) r → IsPlanFor (by_control_first limit) p r
control_first_plan p limit (Ok (Picks picks)) h = absurd h
control_first_plan p limit (Ok (Directives n ds)) h = ap (λ k. picks_of_directives p k (map directive_seen ds.items)) h.0 ∙ ap (λ xs. picks_of_directives p limit (map directive_seen xs)) h.1
control_first_plan p limit (Err (Refused r)) h = h
control_first_plan p limit (Err OutOfMemory) h = h
