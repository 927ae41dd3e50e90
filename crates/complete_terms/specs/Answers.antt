-- Two answers of a reader of texts that are seen alike. Where one of them is refused memory nothing is said.
use Rattle.std.specs.Prelude.{◌≡◌, Result, Ok, Err}
use Rattle.def_term.specs.Tree.{Tree}
use Rattle.tn_term.specs.Views.{tree_of}
use Rattle.tn_term.specs.declared.term.Term.{Term}
use Rattle.tn_text.specs.declared.fault.TextFault.{TextFault}
use Rattle.tn_text.specs.declared.fault.TextFault.TheVariants.{OutOfMemory}

-- the fault is refused memory
abbrev pub IsRefusedMemory : TextFault → Type 0
IsRefusedMemory OutOfMemory = Unit {0}
IsRefusedMemory _ = ⊥

-- the same fault with the same place
abbrev pub FaultsAlike : TextFault → TextFault → Type 0
FaultsAlike OutOfMemory g = Unit {0}
FaultsAlike f OutOfMemory = Unit {0}
FaultsAlike f g = f ≡ g

-- the same value, by this view, or the same fault
abbrev pub AreAlike : {X V : Type 0} → (X → V) → Result X TextFault → Result X TextFault → Type 0
AreAlike view (Ok x) (Ok y) = view x ≡ view y
AreAlike view (Ok x) (Err g) = IsRefusedMemory g
AreAlike view (Err f) (Ok y) = IsRefusedMemory f
AreAlike view (Err f) (Err g) = FaultsAlike f g

-- this term is read, unless memory is refused
abbrev pub ReadsAs : {A : Type 0} → Tree → Result (Term A) TextFault → Type 0
ReadsAs t (Ok u) = tree_of u ≡ t
ReadsAs t (Err fault) = IsRefusedMemory fault
