-- What the forms of a text are, and its refusals.
use Rattle.std.specs.Prelude.{◌≡◌, ℕ, ◌<◌, ◌≤◌, List, length, map, Option, Some, None, Result, Ok, Err}
use Rattle.std.specs.declared.vec.Vec.{Vec}
use Rattle.def_term.specs.Tree.{Tree}
use Rattle.def_script.specs.Limits.{FORMS}
use Rattle.def_script.specs.Shapes.{forms_in}
use Rattle.def_script.specs.Script as script
use Rattle.def_script.specs.Script.{SpellsForms, IsFirstShapeless, Refusal, IsRefused}
use Rattle.tn_text.specs.declared.fault.TextFault.{TextFault}
use Rattle.tn_text.specs.declared.fault.TextFault.TheVariants as text
use Rattle.tn_script.specs.declared.fault.ScriptFault.{ScriptFault}
use Rattle.tn_script.specs.declared.fault.ScriptFault.TheVariants.{TooLong, Token, TooDeep, TooLarge, Form as Shapeless, TooManyForms, OutOfMemory}
use Rattle.tn_script.specs.declared.form.Form.{Form}
use Rattle.tn_script.specs.Views.{form_of}

abbrev pub of_text : TextFault → ScriptFault
of_text text.TooLong = TooLong
of_text (text.Token at) = Token at
of_text (text.TooDeep at) = TooDeep at
of_text (text.TooLarge at) = TooLarge at
of_text text.OutOfMemory = OutOfMemory

-- the refusal that a fault tells; want of memory is none
abbrev pub refusal_seen : ScriptFault → Option Refusal
refusal_seen TooLong = Some script.too_long
refusal_seen (Token at) = Some (script.token at)
refusal_seen (TooDeep at) = Some (script.too_deep at)
refusal_seen (TooLarge at) = Some (script.too_large at)
refusal_seen (Shapeless n) = Some (script.form n)
refusal_seen TooManyForms = Some script.too_many_forms
refusal_seen OutOfMemory = None

-- the text is refused so, if at all
abbrev pub IsRefusedIfAtAll : List ℕ → Option Refusal → Type 0
IsRefusedIfAtAll bytes None = Unit {0}
IsRefusedIfAtAll bytes (Some r) = IsRefused bytes r

-- the forms that the text spells, at most 256; or its refusal
abbrev pub AreForms : {A : Type 0} → List ℕ → Result (Vec (Form A) A) ScriptFault → Type 0
AreForms bytes (Ok v) = SpellsForms bytes (map form_of v.items) × (length v.items ≤ FORMS)
AreForms bytes (Err fault) = IsRefusedIfAtAll bytes (refusal_seen fault)

-- the forms that the terms stand for, at most 256; or the first term that has no shape, or that there are too many
abbrev pub AreFormsOf : {A : Type 0} → List Tree → Result (Vec (Form A) A) ScriptFault → Type 0
AreFormsOf ts (Ok v) = (forms_in ts ≡ Some (map form_of v.items)) × (length ts ≤ FORMS)
AreFormsOf ts (Err TooLong) = ⊥
AreFormsOf ts (Err (Token at)) = ⊥
AreFormsOf ts (Err (TooDeep at)) = ⊥
AreFormsOf ts (Err (TooLarge at)) = ⊥
AreFormsOf ts (Err (Shapeless n)) = (length ts ≤ FORMS) × IsFirstShapeless ts n
AreFormsOf ts (Err TooManyForms) = FORMS < length ts
AreFormsOf ts (Err OutOfMemory) = Unit {0}
