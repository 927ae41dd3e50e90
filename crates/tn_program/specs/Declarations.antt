-- Functions that no form declares, and the rules on steps.
use Rattle.std.specs.Prelude.{Bool, not, List, Option, map}
use Rattle.def_term.specs.Names.{Name, Mfa}
use Rattle.def_script.specs.Program as program
use Rattle.def_script.specs.Rules.{is_declared_at_all, is_internal, is_misnamed, on_some, named_by, named_with_module, Rule, rule_broken}
use Rattle.tn_script.specs.Views.{form_of}
use Rattle.tn_script.specs.declared.form.Form.{Form}
use Rattle.tn_program.specs.declared.rules.StepRule.{StepRule}
use Rattle.tn_program.specs.declared.rules.StepRule.TheVariants.{Undeclared, Internal, Misnamed}

-- no form declares it with any number of parameters
abbrev pub is_unnamed : List program.Form → Mfa → Bool
is_unnamed fs f = not (is_declared_at_all fs f)

-- a step of a function of this module breaks the rule
abbrev pub step_breaks : StepRule → List program.Form → Name → program.Step → Bool
step_breaks Undeclared fs m s = on_some (is_unnamed fs) (named_by m s)
step_breaks Internal fs m s = on_some (is_internal fs) (named_with_module s)
step_breaks Misnamed fs m s = on_some (is_misnamed fs) (named_by m s)

-- the least rule that the form breaks
abbrev pub rule_broken_in : {A : Type 0} → List (Form A) → List (Form A) → Form A → Option Rule
rule_broken_in fs earlier f = rule_broken (map form_of fs) (map form_of earlier) (form_of f)
