-- What the code's traps stand for.
-- Depends on traps.
use Rattle.std.specs.Prelude.{ℕ, List, map, Option}
use Rattle.std.specs.Option.{option_map}
use Rattle.std.specs.Borrow.{Bor}
use Rattle.def_term.specs.Tree.{Tree}
use Rattle.def_spec.specs.Outcome as outcome
use Rattle.def_trap.specs.Traps as traps
use Rattle.tn_term.specs.declared.term.Term.{Term}
use Rattle.tn_term.specs.Views.{tree_of}
use Rattle.tn_spec.specs.declared.spec.Clause.{Clause}
use Rattle.tn_spec.specs.Views.{action_of, clause_seen}
use Rattle.tn_trap.specs.declared.trap.BodyTrap.{BodyTrap}
use Rattle.tn_trap.specs.declared.trap.BodyTrap.TheVariants.{NamesAction, MarksNoCall, LacksFlag}
use Rattle.tn_trap.specs.declared.trap.Trap.{Trap}
use Rattle.tn_trap.specs.declared.trap.Trap.TheVariants.{OfHead, OfBody}

abbrev pub body_trap_seen : {A : Type 0} → BodyTrap A → traps.BodyTrap
body_trap_seen (NamesAction name) = traps.names_action name.now
body_trap_seen (MarksNoCall action) = traps.marks_no_call (action_of action)
body_trap_seen (LacksFlag action term) = traps.lacks_flag (action_of action) (tree_of term.now)

abbrev pub trap_seen : {A : Type 0} → Trap A → traps.Trap
trap_seen (OfHead elements) = traps.of_head elements
trap_seen (OfBody before trap) = traps.of_body before (body_trap_seen trap)

-- where there is one
abbrev pub body_traps_seen : {A : Type 0} → Option (BodyTrap A) → Option traps.BodyTrap
body_traps_seen t = option_map body_trap_seen t

abbrev pub traps_seen : {A : Type 0} → Option (Trap A) → Option traps.Trap
traps_seen t = option_map trap_seen t

-- with how many clauses are before its own
abbrev pub counted_trap_seen : {A : Type 0} → ℕ × Trap A → ℕ × traps.Trap
counted_trap_seen t = (t.0, trap_seen t.1)

abbrev pub counted_traps_seen : {A : Type 0} → Option (ℕ × Trap A) → Option (ℕ × traps.Trap)
counted_traps_seen t = option_map counted_trap_seen t

-- a term, where there is one
abbrev pub terms_seen : {A : Type 0} → Option (Bor (Term A)) → Option Tree
terms_seen t = option_map (λ r. tree_of r.now) t

abbrev pub clauses_seen : {A : Type 0} → List (Clause A) → List outcome.Clause
clauses_seen ks = map clause_seen ks
