-- What the code's traps of commands stand for.
-- Depends on traps and on the reasons of commands.
use Rattle.std.specs.Prelude.{ℕ, Option}
use Rattle.std.specs.Option.{option_map}
use Rattle.def_spec.specs.Expressions as expressions
use Rattle.def_trap.specs.Traps as traps
use Rattle.def_explain.specs.CommandReasons as reasons
use Rattle.tn_term.specs.Views.{tree_of}
use Rattle.tn_spec.specs.Views.{action_of, dialect_of}
use Rattle.tn_command_reason.specs.declared.held_trap.HeldBodyTrap.{HeldBodyTrap}
use Rattle.tn_command_reason.specs.declared.held_trap.HeldBodyTrap.TheVariants.{NamesAction, MarksNoCall, LacksFlag}
use Rattle.tn_command_reason.specs.declared.held_trap.HeldTrap.{HeldTrap}
use Rattle.tn_command_reason.specs.declared.held_trap.HeldTrap.TheVariants.{OfHead, OfBody}
use Rattle.tn_command_reason.specs.declared.held_trap.SpecTrap.{SpecTrap}

abbrev pub held_body_trap_seen : {A : Type 0} → HeldBodyTrap A → traps.BodyTrap
held_body_trap_seen (NamesAction name) = traps.names_action name
held_body_trap_seen (MarksNoCall action) = traps.marks_no_call (action_of action)
held_body_trap_seen (LacksFlag action term) = traps.lacks_flag (action_of action) (tree_of term)

abbrev pub held_trap_seen : {A : Type 0} → HeldTrap A → traps.Trap
held_trap_seen (OfHead elements) = traps.of_head elements
held_trap_seen (OfBody before trap) = traps.of_body before (held_body_trap_seen trap)

abbrev pub spec_trap_seen : {A : Type 0} → SpecTrap A → reasons.CommandReason
spec_trap_seen t = reasons.has_trap t.count t.before (dialect_of t.dialect) (held_trap_seen t.trap)

-- where there is one
abbrev pub spec_traps_seen : {A : Type 0} → Option (SpecTrap A) → Option reasons.CommandReason
spec_traps_seen t = option_map spec_trap_seen t

-- as the reason of a command that replies this number
abbrev pub counted_reason : ℕ → expressions.Dialect → Option (ℕ × traps.Trap) → Option reasons.CommandReason
counted_reason count d t = option_map (λ x. reasons.has_trap count x.0 d x.1) t
