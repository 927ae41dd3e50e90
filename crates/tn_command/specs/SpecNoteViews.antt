-- What the code's lists that were probably meant as calls stand for, and which notes a text has.
use Rattle.std.specs.Prelude.{◌≡◌, ◌⊎◌, ℕ, List, Option}
use Rattle.std.specs.Option.{option_map}
use Rattle.def_term.specs.Tree.{Tree}
use Rattle.def_text.specs.Spelling.{Spells}
use Rattle.tn_text.specs.Answers.{IsTextRefusal}
use Rattle.tn_text.specs.declared.fault.TextFault.{TextFault}
use Rattle.tn_spec.specs.Names.{position_seen}
use Rattle.tn_spec.specs.Views.{dialect_of}
use Rattle.tn_spec.specs.declared.func.Dialect.{Dialect}
use Rattle.tn_command.specs.SpecNotes as notes
use Rattle.tn_command.specs.SpecNotes.{spec_notes}
use Rattle.tn_command.specs.declared.lists_as_calls.CallShape.{CallShape}
use Rattle.tn_command.specs.declared.lists_as_calls.ListAsCall.{ListAsCall}

abbrev pub call_shape_seen : {A : Type 0} → CallShape A → notes.CallShape
call_shape_seen c = record { name = c.name.now; arguments = c.arguments }

abbrev pub list_as_call_seen : {A : Type 0} → ListAsCall A → notes.ListAsCall
list_as_call_seen l = record { part = position_seen l.part; before = l.before; call = call_shape_seen l.call }

-- where there is one
abbrev pub call_shapes_seen : {A : Type 0} → Option (CallShape A) → Option notes.CallShape
call_shapes_seen c = option_map call_shape_seen c

abbrev pub lists_as_calls_seen : {A : Type 0} → Option (ListAsCall A) → Option notes.ListAsCall
lists_as_calls_seen l = option_map list_as_call_seen l

-- with how many terms are before it
abbrev pub counted_call_shapes_seen : {A : Type 0} → Option (ℕ × CallShape A) → Option (ℕ × notes.CallShape)
counted_call_shapes_seen c = option_map (λ x. (x.0, call_shape_seen x.1)) c

abbrev pub counted_list_seen : {A : Type 0} → ℕ × ListAsCall A → ℕ × notes.ListAsCall
counted_list_seen x = (x.0, list_as_call_seen x.1)

abbrev pub counted_lists_seen : {A : Type 0} → Option (ℕ × ListAsCall A) → Option (ℕ × notes.ListAsCall)
counted_lists_seen l = option_map counted_list_seen l

-- the lines of the terms that the texts spell
abbrev pub AreNotesOf : Dialect → (list specification lines : List ℕ) → Type 0
AreNotesOf d list specification lines = (l s : Tree) × Spells list l × Spells specification s × (lines ≡ spec_notes (dialect_of d) l s)

-- one of the texts is refused
abbrev pub IsNoteFault : (list specification : List ℕ) → TextFault → Type 0
IsNoteFault list specification fault = IsTextRefusal list fault ⊎ IsTextRefusal specification fault
