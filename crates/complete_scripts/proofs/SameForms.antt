-- Two answers to one text are the same.
use Rattle.std.proofs.Common.{◌≡◌, ◌∙◌, ℕ, ◌≤◌, List, length, map, Some, None, IfSome, Result, Ok, Err, refl, sym, ap, arith}
use Rattle.std.proofs.lemmas.List.{length-map}
use Rattle.std.specs.declared.vec.Vec.{Vec}
use Rattle.def_text.proofs.Either.{script_one}
use Rattle.def_script.specs.Limits.{FORMS}
use Rattle.def_script.specs.Program.{Form}
use Rattle.def_script.specs.Rules.{Rule, first_broken}
use Rattle.def_script.specs.Script.{Refusal, IsRefused, SpellsForms, broken, program_from}
use Rattle.def_script.specs.Shapes.{forms_in}
use Rattle.def_script.proofs.FirstBroken.{first_is, none_broken}
use Rattle.def_script.proofs.OneScript.{not_both, refused_once}
use Rattle.tn_script.specs.declared.fault.ScriptFault.{ScriptFault}
use Rattle.tn_script.specs.declared.fault.ScriptFault.TheVariants.{TooLong, Token, TooDeep, TooLarge, Form as Shapeless, TooManyForms, OutOfMemory}
use Rattle.tn_script.specs.declared.form.Form as code
use Rattle.tn_script.specs.Views.{form_of}
use Rattle.tn_script.specs.Answers.{AreForms, refusal_seen}
use Rattle.complete_scripts.specs.Agreement.{Agree, answer_of}
use Rattle.complete_scripts.proofs.Agreements.{agree_by}

the_same : {X : Type 0} (x y : X) → Some x ≡ Some y → x ≡ y
the_same x y e = cc

-- the refusal is none of a broken rule
abbrev IsOfText : Refusal → Type 0
IsOfText r = (q : Rule) (n : ℕ) → r ≡ broken q n → ⊥

-- the text spells these forms, or is refused so before its forms are looked at
abbrev pub ComesTo : List ℕ → Result (List Form) Refusal → Type 0
ComesTo bytes (Ok fs) = SpellsForms bytes fs × (length fs ≤ FORMS)
ComesTo bytes (Err r) = IsRefused bytes r × IsOfText r

spelled_alone : (bytes : List ℕ) (fs : List Form) (r : Refusal) → SpellsForms bytes fs → length fs ≤ FORMS → IsRefused bytes r → IsOfText r → ⊥
spelled_alone bytes fs r s few h other =
    elim (first_broken fs) as (λ o. first_broken fs ≡ o → ⊥) [
      | None ↦ λ e. not_both bytes (program_from fs) r (record { forms = fs; spelled = s; few = few; kept = none_broken fs e; made = refl }) h
      | Some p ↦ λ e. other p.1 p.0 (refused_once bytes r (broken p.1 p.0) h (record { forms = fs; spelled = s; few = few; first = first_is fs p.0 p.1 e }))
    ] refl

one_answer : (bytes : List ℕ) (x y : Result (List Form) Refusal) → ComesTo bytes x → ComesTo bytes y → x ≡ y
one_answer bytes (Ok fs) (Ok gs) h i =
    ap Ok (the_same fs gs (sym h.0.shaped ∙ ap forms_in (script_one bytes h.0.terms i.0.terms h.0.spelled i.0.spelled) ∙ i.0.shaped))
one_answer bytes (Ok fs) (Err r) h i = absurd (spelled_alone bytes fs r h.0 h.1 i.0 i.1)
one_answer bytes (Err r) (Ok fs) h i = absurd (spelled_alone bytes fs r i.0 i.1 h.0 h.1)
one_answer bytes (Err r) (Err s) h i = ap Err (refused_once bytes r s h.0 i.0)

comes_to : {A : Type 0} (bytes : List ℕ) (r : Result (Vec (code.Form A) A) ScriptFault) → AreForms bytes r
    → IfSome (answer_of (λ v. map form_of v.items) refusal_seen r) (ComesTo bytes)
comes_to bytes (Ok v) h = (h.0, omega (arith, length-map v.items form_of, h.1))
comes_to bytes (Err TooLong) h = (h, λ q n e. cc)
comes_to bytes (Err (Token at)) h = (h, λ q n e. cc)
comes_to bytes (Err (TooDeep at)) h = (h, λ q n e. cc)
comes_to bytes (Err (TooLarge at)) h = (h, λ q n e. cc)
comes_to bytes (Err (Shapeless m)) h = (h, λ q n e. cc)
comes_to bytes (Err TooManyForms) h = (h, λ q n e. cc)
comes_to bytes (Err OutOfMemory) h = tt

pub same_forms : {A : Type 0} (bytes : List ℕ) (r q : Result (Vec (code.Form A) A) ScriptFault) → AreForms bytes r → AreForms bytes q
    → Agree (answer_of (λ v. map form_of v.items) refusal_seen r) (answer_of (λ v. map form_of v.items) refusal_seen q)
same_forms bytes r q h i = agree_by (ComesTo bytes) (one_answer bytes) _ _ (comes_to bytes r h) (comes_to bytes q i)
