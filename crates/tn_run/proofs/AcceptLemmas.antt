-- What a text is run as, from what its forms and their rules are.
use Rattle.std.proofs.Common.{ℕ, ◌≤◌, List, length, map, Ok, Err, sym, subst}
use Rattle.std.proofs.lemmas.List.{length-map}
use Rattle.def_script.specs.Limits.{FORMS}
use Rattle.def_script.specs.Program.{Form}
use Rattle.def_script.specs.Script.{SpellsForms}
use Rattle.tn_script.specs.declared.fault.ScriptFault.{ScriptFault}
use Rattle.tn_script.specs.declared.fault.ScriptFault.TheVariants as read
use Rattle.tn_script.specs.declared.form.Form as code
use Rattle.tn_script.specs.Views.{form_of}
use Rattle.tn_script.specs.Answers.{AreForms}
use Rattle.tn_program.specs.declared.parts.Program.{Program}
use Rattle.tn_program.specs.declared.fault.RuleFault.{RuleFault}
use Rattle.tn_program.specs.declared.fault.RuleFault.TheVariants as rule
use Rattle.tn_program.specs.Faults.{IsProgramOf}
use Rattle.tn_refusal.specs.Refusals.{denial_of_script, denial_of_rules}
use Rattle.tn_run.specs.Scripts.{IsAccepted}
use Rattle.def_script.specs.Rules as rules
use Rattle.def_script.proofs.FirstBroken.{first_is, none_broken}

pub denied_by_forms : (A : Type 0) (bytes : List ℕ) (fault : ScriptFault) → AreForms {A = A} bytes (Err fault) → IsAccepted {A = A} bytes (Err (denial_of_script fault))
denied_by_forms A bytes read.TooLong h = h
denied_by_forms A bytes (read.Token at) h = h
denied_by_forms A bytes (read.TooDeep at) h = h
denied_by_forms A bytes (read.TooLarge at) h = h
denied_by_forms A bytes (read.Form n) h = h
denied_by_forms A bytes read.TooManyForms h = h
denied_by_forms A bytes read.OutOfMemory h = tt

few_forms : {A : Type 0} (vs : List (code.Form A)) → length vs ≤ FORMS → length (map form_of vs) ≤ FORMS
few_forms vs h = subst (λ n. n ≤ FORMS) (sym (length-map vs form_of)) h

module _ {A : Type 0} (bytes : List ℕ) (vs : List (code.Form A)) (h : SpellsForms bytes (map form_of vs) × (length vs ≤ FORMS)) where
  abbrev fs : List Form
  fs = map form_of vs

  pub accepted : (p : Program A) → IsProgramOf fs (Ok p) → IsAccepted bytes (Ok p)
  accepted p made = record { forms = fs; spelled = h.0; few = few_forms vs h.1; kept = none_broken fs made.0; made = made.1 }

  pub denied_by_rules : (fault : RuleFault) → IsProgramOf {A = A} fs (Err fault) → IsAccepted {A = A} bytes (Err (denial_of_rules fault))
  denied_by_rules (rule.Duplicate n) b = record { forms = fs; spelled = h.0; few = few_forms vs h.1; first = first_is fs n rules.duplicate b }
  denied_by_rules (rule.Undeclared n) b = record { forms = fs; spelled = h.0; few = few_forms vs h.1; first = first_is fs n rules.undeclared b }
  denied_by_rules (rule.NotExported n) b = record { forms = fs; spelled = h.0; few = few_forms vs h.1; first = first_is fs n rules.not_exported b }
  denied_by_rules (rule.Unbound n) b = record { forms = fs; spelled = h.0; few = few_forms vs h.1; first = first_is fs n rules.unbound b }
  denied_by_rules (rule.TracerTaken n) b = record { forms = fs; spelled = h.0; few = few_forms vs h.1; first = first_is fs n rules.tracer_taken b }
  denied_by_rules (rule.Arity n) b = record { forms = fs; spelled = h.0; few = few_forms vs h.1; first = first_is fs n rules.wrong_arity b }
  denied_by_rules (rule.Limit n) b = record { forms = fs; spelled = h.0; few = few_forms vs h.1; first = first_is fs n rules.past_limit b }
  denied_by_rules rule.OutOfMemory b = tt
