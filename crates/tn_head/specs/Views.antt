-- What the code's bindings stand for.
use Rattle.std.specs.Prelude.{ℕ, [], ◌∷◌, map}
use Rattle.def_term.specs.Tree.{Tree, list}
use Rattle.def_spec.specs.Matching as matching
use Rattle.tn_guard.specs.Views.{value_seen, list_view_seen}
use Rattle.tn_head.specs.declared.bindings.Binding.{Binding}
use Rattle.tn_head.specs.declared.bindings.Bindings.{Bindings}
use Rattle.tn_head.specs.declared.bindings.Bindings.TheVariants as kinds

abbrev pub binding_seen : {A : Type 0} → Binding A → ℕ × Tree
binding_seen b = (b.number, value_seen b.value)

abbrev pub bindings_seen : {A B : Type 0} → Bindings A B → matching.Bindings
bindings_seen (kinds.Whole n p) = (n, list (list_view_seen p)) ∷ []
bindings_seen (kinds.Each v) = map binding_seen v.items
