-- What is promised of the reasons that a line gives (own).
-- Depends on the shapes and the rules of forms, and on the reasons.
use Rattle.std.specs.Prelude.{◌≡◌, ◌≢◌, not, List, is_some}
use Rattle.def_term.specs.Tree.{Tree}
use Rattle.def_script.specs.Program.{Form}
use Rattle.def_script.specs.Rules.{Rule, past_limit, breaks}
use Rattle.def_script.specs.Shapes.{step_in, command_in}
use Rattle.def_wording.specs.RuleTexts.{rule_reason}
use Rattle.def_wording.specs.ShapeTexts.{step_shape_reason, command_shape_reason}

-- a form breaks a rule, other than that on limits, exactly where there is a reason
abbrev pub BrokenRuleHasAReason : Type 0
BrokenRuleHasAReason = (fs earlier : List Form) (f : Form) (r : Rule) → r ≢ past_limit → breaks fs earlier f r ≡ is_some (rule_reason fs earlier f r)

-- a term is no step exactly where there is a reason
abbrev pub ShapelessStepHasAReason : Type 0
ShapelessStepHasAReason = (t : Tree) → is_some (step_shape_reason t) ≡ not (is_some (step_in t))

-- a term is no command exactly where there is a reason
abbrev pub ShapelessCommandHasAReason : Type 0
ShapelessCommandHasAReason = (t : Tree) → is_some (command_shape_reason t) ≡ not (is_some (command_in t))
