-- What a fault tells of forms, and what a program is made of.
use Rattle.std.specs.Prelude.{◌≡◌, ℕ, List, Option, Some, None, Result, Ok, Err}
use Rattle.def_script.specs.Program.{Form}
use Rattle.def_script.specs.Rules as rules
use Rattle.def_script.specs.Rules.{first_broken}
use Rattle.def_script.specs.Script.{program_from}
use Rattle.tn_program.specs.declared.parts.Program.{Program}
use Rattle.tn_program.specs.declared.fault.Rule.{Rule}
use Rattle.tn_program.specs.declared.fault.Rule.TheVariants as named
use Rattle.tn_program.specs.declared.fault.RuleFault.{RuleFault}
use Rattle.tn_program.specs.declared.fault.RuleFault.TheVariants.{Duplicate, Undeclared, NotExported, Unbound, TracerTaken, Arity, Limit, OutOfMemory}
use Rattle.tn_program.specs.Views.{program_of}

abbrev pub rule_of : Rule → rules.Rule
rule_of named.Duplicate = rules.duplicate
rule_of named.Undeclared = rules.undeclared
rule_of named.NotExported = rules.not_exported
rule_of named.Unbound = rules.unbound
rule_of named.TracerTaken = rules.tracer_taken
rule_of named.Arity = rules.wrong_arity
rule_of named.Limit = rules.past_limit

abbrev pub rule_fault_of : Rule → ℕ → RuleFault
rule_fault_of named.Duplicate n = Duplicate n
rule_fault_of named.Undeclared n = Undeclared n
rule_fault_of named.NotExported n = NotExported n
rule_fault_of named.Unbound n = Unbound n
rule_fault_of named.TracerTaken n = TracerTaken n
rule_fault_of named.Arity n = Arity n
rule_fault_of named.Limit n = Limit n

-- the form and the rule that a fault tells; want of memory tells none
abbrev pub broken_of : RuleFault → Option (ℕ × rules.Rule)
broken_of (Duplicate n) = Some (n, rules.duplicate)
broken_of (Undeclared n) = Some (n, rules.undeclared)
broken_of (NotExported n) = Some (n, rules.not_exported)
broken_of (Unbound n) = Some (n, rules.unbound)
broken_of (TracerTaken n) = Some (n, rules.tracer_taken)
broken_of (Arity n) = Some (n, rules.wrong_arity)
broken_of (Limit n) = Some (n, rules.past_limit)
broken_of OutOfMemory = None

-- want of memory, or the first rule that is broken
abbrev pub IsFirstRuleFault : List Form → Option (ℕ × rules.Rule) → Type 0
IsFirstRuleFault fs None = Unit {0}
IsFirstRuleFault fs (Some b) = first_broken fs ≡ Some b

-- no form breaks a rule; or the fault tells which is the first
abbrev pub ObeysRules : List Form → Result (Unit {0}) RuleFault → Type 0
ObeysRules fs (Ok u) = first_broken fs ≡ None
ObeysRules fs (Err fault) = IsFirstRuleFault fs (broken_of fault)

-- the program of forms that break no rule; or the fault tells which is the first that does
abbrev pub IsProgramOf : {A : Type 0} → List Form → Result (Program A) RuleFault → Type 0
IsProgramOf fs (Ok p) = (first_broken fs ≡ None) × (program_of p ≡ program_from fs)
IsProgramOf fs (Err fault) = IsFirstRuleFault fs (broken_of fault)
