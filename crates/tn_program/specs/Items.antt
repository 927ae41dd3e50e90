-- The step or the command for which a form breaks a rule, by a fault.
use Rattle.std.specs.Prelude.{ℕ, Bool, List, [], Option, Some, None}
use Rattle.def_script.specs.Program as program
use Rattle.def_script.specs.Rules as rules
use Rattle.def_refusal.specs.Items.{FormItem, position_with_earlier, breaks_by_step, breaking_item_in}
use Rattle.tn_program.specs.declared.fault.Rule.{Rule}
use Rattle.tn_program.specs.Faults.{rule_of}

-- the form and the rule
abbrev pub rule_and_form : Rule × ℕ → ℕ × rules.Rule
rule_and_form p = (p.1, rule_of p.0)

-- the item of the form and the rule that a fault tells
abbrev pub item_of_fault : List program.Form → Option (ℕ × rules.Rule) → Option FormItem
item_of_fault fs None = None
item_of_fault fs (Some b) = breaking_item_in fs b.0 b.1

-- the position of the first step that passes, counted from 1
abbrev pub position_in_steps : (program.Step → Bool) → List program.Step → Option ℕ
position_in_steps p ss = position_with_earlier (λ before s. p s) [] 1 ss

-- the position of the first step that breaks the rule
abbrev pub position_of_rule : List program.Form → program.Function → rules.Rule → Option ℕ
position_of_rule fs k r = position_with_earlier (breaks_by_step fs k r) [] 1 k.steps
