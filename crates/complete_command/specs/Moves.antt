-- Two answers of a text of moves that agree.
use Rattle.std.specs.Prelude.{◌≡◌, Result, Ok, Err}
use Rattle.std.specs.declared.vec.Vec.{Vec}
use Rattle.def_script.specs.Program.{Program}
use Rattle.tn_moves.specs.Plans.{plan_picks}
use Rattle.tn_moves.specs.declared.plan.Plan.{Plan}
use Rattle.tn_moves.specs.declared.text.MovesFault.{MovesFault}
use Rattle.tn_moves.specs.declared.text.MovesFault.TheVariants.{Refused}

-- the same values, or the same refusal; a lack of memory may come in either
abbrev pub MovesAlike : {X A : Type 0} → Result (Vec X A) MovesFault → Result (Vec X A) MovesFault → Type 0
MovesAlike (Ok v) (Ok w) = v.items ≡ w.items
MovesAlike (Ok v) (Err (Refused r)) = ⊥
MovesAlike (Err (Refused r)) (Ok w) = ⊥
MovesAlike (Err (Refused r)) (Err (Refused s)) = r ≡ s
MovesAlike r q = Unit {0}

-- plans with the same picks of a program, or the same refusal
abbrev pub PlansAlike : {A : Type 0} → Program → Result (Plan A) MovesFault → Result (Plan A) MovesFault → Type 0
PlansAlike p (Ok v) (Ok w) = plan_picks p v ≡ plan_picks p w
PlansAlike p (Ok v) (Err (Refused r)) = ⊥
PlansAlike p (Err (Refused r)) (Ok w) = ⊥
PlansAlike p (Err (Refused r)) (Err (Refused s)) = r ≡ s
PlansAlike p r q = Unit {0}
