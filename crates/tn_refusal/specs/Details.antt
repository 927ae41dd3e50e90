-- What a line says of what breaks a rule.
-- Depends on what a line says of a refused token and of a form without a shape.
use Rattle.std.specs.Prelude.{◌≡◌, ℕ, ◌-◌, ◌≤◌, List, ◌∷◌, ◌++◌, length, drop, map, Option, Some, None, codes, decimal}
use Rattle.std.specs.declared.vec.Vec.{Vec}
use Rattle.def_term.specs.Tree.{Tree}
use Rattle.def_text.specs.Scripts.{SpellsTerms}
use Rattle.def_text.specs.Spelling.{LENGTH}
use Rattle.def_script.specs.Script.{Refusal, too_long, token, too_deep, too_large, form, too_many_forms, broken, bad_picks}
use Rattle.def_script.specs.Program.{Form}
use Rattle.def_script.specs.Rules.{Rule}
use Rattle.def_refusal.specs.RefusedItems.{HasForms as ScriptForms}
use Rattle.def_wording.specs.PickTexts.{picks_detail}
use Rattle.def_wording.specs.RuleTexts.{rule_reason_in, rule_reasons_text}
use Rattle.def_wording.specs.ShapeTexts.{shape_detail}
use Rattle.def_wording.specs.SyntaxTexts.{TextKind}
use Rattle.tn_script.specs.declared.form.Form as code
use Rattle.tn_script.specs.Views.{form_of}
use Rattle.tn_refusal.specs.declared.refusal.RefusedPart.{RefusedPart}
use Rattle.tn_refusal.specs.declared.refusal.RefusedPart.TheVariants as part
use Rattle.tn_refusal.specs.declared.syntax.TokenFault.TheVariants.{Misplaced, Deep, Large}
use Rattle.tn_refusal.specs.Pieces.{SpellsFirst}
use Rattle.tn_refusal.specs.TextViews.{TellsToken}

-- these bytes spell form n of a text that spells terms
abbrev pub IsFormText : List ℕ → ℕ → List ℕ → Type 0
IsFormText bytes n own = (ts : List Tree) → SpellsTerms bytes ts → SpellsFirst own (drop (n - 1) ts)

-- the bytes of the form that a refusal is of, where it is of one
abbrev pub HasFormText : List ℕ → RefusedPart → List ℕ → Type 0
HasFormText bytes part.Whole own = Unit {0}
HasFormText bytes (part.Token at) own = Unit {0}
HasFormText bytes (part.Form n) own = IsFormText bytes n own

-- the forms that the code has
abbrev pub forms_seen : {A : Type 0} → Option (Vec (code.Form A) A) → Option (List Form)
forms_seen None = None
forms_seen (Some v) = Some (map form_of v.items)

-- these are the forms that the text spells; none where it spells no forms
abbrev pub IsFormsOf : List ℕ → Option (List Form) → Type 0
IsFormsOf bytes None = (fs : List Form) → ScriptForms bytes fs → ⊥
IsFormsOf bytes (Some fs) = ScriptForms bytes fs

-- the forms of the text, where the refusal is for one of their rules
abbrev pub HasFormsOfRule : List ℕ → Refusal → Option (List Form) → Type 0
HasFormsOfRule bytes too_long o = Unit {0}
HasFormsOfRule bytes (token at) o = Unit {0}
HasFormsOfRule bytes (too_deep at) o = Unit {0}
HasFormsOfRule bytes (too_large at) o = Unit {0}
HasFormsOfRule bytes (form n) o = Unit {0}
HasFormsOfRule bytes too_many_forms o = Unit {0}
HasFormsOfRule bytes (broken r n) o = IsFormsOf bytes o
HasFormsOfRule bytes bad_picks o = Unit {0}

-- what of form n breaks the rule, in a text that spells forms
abbrev pub TellsRule : List ℕ → Rule → ℕ → List ℕ → List ℕ → Type 0
TellsRule bytes r n old new = (fs : List Form) → ScriptForms bytes fs → new ≡ old ++ rule_reasons_text (rule_reason_in fs n r)

-- how many forms a text of terms has
abbrev pub TellsCount : List ℕ → List ℕ → List ℕ → Type 0
TellsCount bytes old new = (ts : List Tree) → SpellsTerms bytes ts → new ≡ old ++ codes ": there are " ++ decimal (length ts)

-- what of form n breaks the shape, in a text that spells terms
abbrev pub TellsShape : List ℕ → ℕ → List ℕ → List ℕ → Type 0
TellsShape bytes n old new = (ts later : List Tree) (t : Tree) → SpellsTerms bytes ts → drop (n - 1) ts ≡ t ∷ later → new ≡ old ++ shape_detail t

-- how long the text is; of a token in a text within the length what stands there; of a form without a shape which part is at fault; how many
-- forms there are; what of a form breaks its rule; and of picks which is none
abbrev pub TellsDetail : Refusal → List ℕ → TextKind → List ℕ → List ℕ → Type 0
TellsDetail too_long bytes k old new = new ≡ old ++ codes ": there are " ++ decimal (length bytes)
TellsDetail (token at) bytes k old new = length bytes ≤ LENGTH → TellsToken Misplaced bytes k old new
TellsDetail (too_deep at) bytes k old new = length bytes ≤ LENGTH → TellsToken Deep bytes k old new
TellsDetail (too_large at) bytes k old new = length bytes ≤ LENGTH → TellsToken Large bytes k old new
TellsDetail (form n) bytes k old new = TellsShape bytes n old new
TellsDetail too_many_forms bytes k old new = TellsCount bytes old new
TellsDetail (broken r n) bytes k old new = TellsRule bytes r n old new
TellsDetail bad_picks bytes k old new = new ≡ old ++ picks_detail bytes
