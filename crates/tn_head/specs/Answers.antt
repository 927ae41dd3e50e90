-- What is found for a head and a list.
use Rattle.std.specs.Prelude.{Option}
use Rattle.std.specs.Option.{option_map}
use Rattle.def_spec.specs.Matching as matching
use Rattle.tn_guard.specs.declared.list_view.ListView.{ListView}
use Rattle.tn_head.specs.Matching.{list_seen}
use Rattle.tn_head.specs.Views.{bindings_seen}
use Rattle.tn_head.specs.declared.bindings.Bindings.{Bindings}
use Rattle.tn_spec.specs.Views.{head_seen}
use Rattle.tn_spec.specs.declared.pattern.Head.{Head}

-- the bindings, where there are any
abbrev pub found_seen : {A B : Type 0} → Option (Bindings A B) → Option matching.Bindings
found_seen o = option_map bindings_seen o

-- the binding of a head against the list of these elements
abbrev pub bindings_in : {P A : Type 0} → Head P → ListView A → Option matching.Bindings
bindings_in head list = matching.bindings_of (head_seen head) (list_seen list)
