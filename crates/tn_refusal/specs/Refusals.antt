-- Which refusal the code's stands for, and which denial a fault of reading comes to (own).
-- Depends on the refusals of scripts.
use Rattle.std.specs.Prelude.{ℕ, List, [], Option, Some, None, decimal}
use Rattle.def_script.specs.Rules as rules
use Rattle.def_script.specs.Script as script
use Rattle.def_script.specs.Script.{Refusal}
use Rattle.tn_script.specs.declared.fault.ScriptFault.{ScriptFault}
use Rattle.tn_script.specs.declared.fault.ScriptFault.TheVariants as read
use Rattle.tn_program.specs.declared.fault.RuleFault.{RuleFault}
use Rattle.tn_program.specs.declared.fault.RuleFault.TheVariants as rule
use Rattle.tn_refusal.specs.declared.refusal.Refusal as code
use Rattle.tn_refusal.specs.declared.refusal.Refusal.TheVariants.{TooLong, Token, TooDeep, TooLarge, Form as Shapeless, TooManyForms, Duplicate, Undeclared, NotExported, Unbound, TracerTaken, Arity, Limit, BadPicks}
use Rattle.tn_refusal.specs.declared.refusal.RefusedPart.{RefusedPart}
use Rattle.tn_refusal.specs.declared.refusal.RefusedPart.TheVariants.{Whole, Token as InToken, Form as InForm}
use Rattle.tn_refusal.specs.declared.refusal.Denial.{Denial}
use Rattle.tn_refusal.specs.declared.refusal.Denial.TheVariants.{Refused, OutOfMemory}

-- what the code's refusal stands for
abbrev pub refusal_of : code.Refusal → Refusal
refusal_of TooLong = script.too_long
refusal_of (Token at) = script.token at
refusal_of (TooDeep at) = script.too_deep at
refusal_of (TooLarge at) = script.too_large at
refusal_of (Shapeless n) = script.form n
refusal_of TooManyForms = script.too_many_forms
refusal_of (Duplicate n) = script.broken rules.duplicate n
refusal_of (Undeclared n) = script.broken rules.undeclared n
refusal_of (NotExported n) = script.broken rules.not_exported n
refusal_of (Unbound n) = script.broken rules.unbound n
refusal_of (TracerTaken n) = script.broken rules.tracer_taken n
refusal_of (Arity n) = script.broken rules.wrong_arity n
refusal_of (Limit n) = script.broken rules.past_limit n
refusal_of BadPicks = script.bad_picks

-- the part of a text that a refusal is of
abbrev pub refused_part : Refusal → RefusedPart
refused_part script.too_long = Whole
refused_part (script.token at) = InToken at
refused_part (script.too_deep at) = InToken at
refused_part (script.too_large at) = InToken at
refused_part (script.form n) = InForm n
refused_part script.too_many_forms = Whole
refused_part (script.broken r n) = InForm n
refused_part script.bad_picks = Whole

-- the denial for a fault of the reading of forms
abbrev pub denial_of_script : ScriptFault → Denial
denial_of_script read.TooLong = Refused TooLong
denial_of_script (read.Token at) = Refused (Token at)
denial_of_script (read.TooDeep at) = Refused (TooDeep at)
denial_of_script (read.TooLarge at) = Refused (TooLarge at)
denial_of_script (read.Form n) = Refused (Shapeless n)
denial_of_script read.TooManyForms = Refused TooManyForms
denial_of_script read.OutOfMemory = OutOfMemory

-- the denial for a fault of the rules on forms
abbrev pub denial_of_rules : RuleFault → Denial
denial_of_rules (rule.Duplicate n) = Refused (Duplicate n)
denial_of_rules (rule.Undeclared n) = Refused (Undeclared n)
denial_of_rules (rule.NotExported n) = Refused (NotExported n)
denial_of_rules (rule.Unbound n) = Refused (Unbound n)
denial_of_rules (rule.TracerTaken n) = Refused (TracerTaken n)
denial_of_rules (rule.Arity n) = Refused (Arity n)
denial_of_rules (rule.Limit n) = Refused (Limit n)
denial_of_rules rule.OutOfMemory = OutOfMemory

-- a number at the end of a line, where there is one
abbrev pub number_text : Option ℕ → List ℕ
number_text None = []
number_text (Some n) = decimal n
