-- Texts of moves have one list of directives or one refusal, and a schedule the picks of one plan or one refusal.
use Rattle.std.proofs.Common.{◌≡◌, ◌∙◌, ℕ, List, [], ◌∷◌, map, Result, Ok, Err, refl, sym, ap, ap₂}
use Rattle.std.specs.declared.vec.Vec.{Vec}
use Rattle.def_script.specs.Program.{Program}
use Rattle.def_run.proofs.Outputs.{picks_are_one}
use Rattle.def_moves.specs.Directives as definition
use Rattle.def_moves.specs.Directives.{times, until_idle, everybody}
use Rattle.def_moves.proofs.Texts.{moves_are_one}
use Rattle.tn_moves.specs.Directives.{directive_seen}
use Rattle.tn_moves.specs.Plans.{IsPlanFor, plan_picks}
use Rattle.tn_moves.specs.Readings.{AreDirectives}
use Rattle.tn_moves.specs.Schedules.{ScheduleView, by_picks, by_moves, by_round, by_control_first, by_workers, IsSpelledBy}
use Rattle.tn_moves.specs.declared.directive.Directive.{Directive}
use Rattle.tn_moves.specs.declared.directive.Directive.TheVariants.{Times, UntilIdle, Everybody}
use Rattle.tn_moves.specs.declared.plan.Plan.{Plan}
use Rattle.tn_moves.specs.declared.text.MovesFault.{MovesFault}
use Rattle.tn_moves.specs.declared.text.MovesFault.TheVariants as fault
use Rattle.complete_workers.proofs.OneRun.{no_directives, not_bad, one_bad, one_moves_refusal, one_picks}
use Rattle.complete_command.specs.Moves.{MovesAlike, PlansAlike}

-- ---- a text

-- the code's directive that stands for one
abbrev directive_back : definition.Directive → Directive
directive_back (times count pick) = Times count pick
directive_back (until_idle pick) = UntilIdle pick
directive_back everybody = Everybody

back_is : (d : Directive) → directive_back (directive_seen d) ≡ d
back_is (Times count pick) = refl
back_is (UntilIdle pick) = refl
back_is Everybody = refl

all_back : (ds : List Directive) → map directive_back (map directive_seen ds) ≡ ds
all_back [] = refl
all_back (d ∷ ds) = ap₂ (λ x xs. x ∷ xs) (back_is d) (all_back ds)

pub one_reading : {A : Type 0} (p : Program) (text : List ℕ) (r q : Result (Vec Directive A) MovesFault) → AreDirectives p text r → AreDirectives p text q → MovesAlike r q
one_reading p text (Ok v) (Ok w) h i = sym (all_back v.items) ∙ ap (map directive_back) (moves_are_one p text (map directive_seen v.items) (map directive_seen w.items) h.1 i.1) ∙ all_back w.items
one_reading p text (Ok v) (Err (fault.Refused r)) h i = no_directives p text (map directive_seen v.items) r h.0 h.1 i
one_reading p text (Ok v) (Err fault.OutOfMemory) h i = tt
one_reading p text (Err (fault.Refused r)) (Ok w) h i = no_directives p text (map directive_seen w.items) r i.0 i.1 h
one_reading p text (Err (fault.Refused r)) (Err (fault.Refused s)) h i = one_moves_refusal p text r s h i
one_reading p text (Err (fault.Refused r)) (Err fault.OutOfMemory) h i = tt
one_reading p text (Err fault.OutOfMemory) (Ok w) h i = tt
one_reading p text (Err fault.OutOfMemory) (Err e) h i = tt

-- ---- plans

-- the plans of one schedule
pub one_plan : {A : Type 0} (a : ScheduleView) (p : Program) (r q : Result (Plan A) MovesFault) → IsPlanFor a p r → IsPlanFor a p q → PlansAlike p r q
one_plan a p (Ok v) (Ok w) h i = one_picks a p (plan_picks p v) (plan_picks p w) h i
one_plan a p (Ok v) (Err (fault.Refused r)) h i = not_bad a p (plan_picks p v) r h i
one_plan a p (Ok v) (Err fault.OutOfMemory) h i = tt
one_plan a p (Err (fault.Refused r)) (Ok w) h i = not_bad a p (plan_picks p w) r i h
one_plan a p (Err (fault.Refused r)) (Err (fault.Refused s)) h i = one_bad a p r s h i
one_plan a p (Err (fault.Refused r)) (Err fault.OutOfMemory) h i = tt
one_plan a p (Err fault.OutOfMemory) (Ok w) h i = tt
one_plan a p (Err fault.OutOfMemory) (Err e) h i = tt

-- the picks that are read of one schedule's text
pub one_spelled : (a : ScheduleView) (xs ys : List ℕ) → IsSpelledBy a xs → IsSpelledBy a ys → xs ≡ ys
one_spelled (by_picks text) xs ys h i = picks_are_one text xs ys h i
one_spelled (by_moves text) xs ys h i = h ∙ sym i
one_spelled (by_round limit) xs ys h i = h ∙ sym i
one_spelled (by_control_first limit) xs ys h i = h ∙ sym i
one_spelled (by_workers made) xs ys h i = h ∙ sym i
