-- The item for which a form breaks a rule, by the form and the rule.
use Rattle.std.specs.Prelude.{ℕ, List, Option, Some, None}
use Rattle.def_script.specs.Rules.{Rule}
use Rattle.def_refusal.specs.Items.{FormItem}
use Rattle.def_refusal.specs.RefusedItems.{IsBreakingItem}

-- of the form and the rule, where they are known
abbrev pub IsItemOfBroken : List ℕ → Option (ℕ × Rule) → Option FormItem → Type 0
IsItemOfBroken bytes None o = Unit {0}
IsItemOfBroken bytes (Some b) o = IsBreakingItem bytes b.1 b.0 o
