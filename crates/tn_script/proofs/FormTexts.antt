-- What the forms of the terms of a text are, for the text.
use Rattle.std.proofs.Common.{◌≡◌, ℕ, List, length, map, Result, Ok, Err, sym, ◌∙◌, arith}
use Rattle.std.specs.declared.vec.Vec.{Vec}
use Rattle.std.proofs.lemmas.List.{length-map}
use Rattle.def_term.specs.Tree.{Tree}
use Rattle.def_text.specs.Scripts.{SpellsTerms}
use Rattle.def_script.specs.Shapes.{form_in}
use Rattle.tn_script.specs.declared.fault.ScriptFault.{ScriptFault}
use Rattle.tn_script.specs.declared.fault.ScriptFault.TheVariants.{TooLong, Token, TooDeep, TooLarge, Form as Shapeless, TooManyForms, OutOfMemory}
use Rattle.tn_script.specs.declared.form.Form.{Form}
use Rattle.tn_script.specs.Views.{form_of}
use Rattle.tn_script.specs.Answers.{AreForms, AreFormsOf}
use Rattle.tn_script.proofs.Each.{each_length}

pub spelled_forms : {A : Type 0} (bytes : List ℕ) (ts : List Tree) (r : Result (Vec (Form A) A) ScriptFault) → SpellsTerms bytes ts → AreFormsOf ts r → AreForms bytes r
spelled_forms bytes ts (Ok v) s h =
    let same : length v.items ≡ length ts = sym (length-map v.items form_of) ∙ each_length form_in ts (map form_of v.items) (sym h.0) in
    (record { terms = ts; spelled = s; shaped = h.0 }, omega (arith, h.1))
spelled_forms bytes ts (Err TooLong) s h = absurd h
spelled_forms bytes ts (Err (Token at)) s h = absurd h
spelled_forms bytes ts (Err (TooDeep at)) s h = absurd h
spelled_forms bytes ts (Err (TooLarge at)) s h = absurd h
spelled_forms bytes ts (Err (Shapeless n)) s h = record { terms = ts; spelled = s; few = h.0; first = h.1 }
spelled_forms bytes ts (Err TooManyForms) s h = record { terms = ts; spelled = s; many = h }
spelled_forms bytes ts (Err OutOfMemory) s h = tt
