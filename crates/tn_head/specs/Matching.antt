-- What it is to answer the binding of a head, or that there is none.
use Rattle.std.specs.Prelude.{ℕ, Bool, List, map, Option, Some, None, if◌then◌else◌}
use Rattle.std.specs.declared.vec.Vec.{Vec}
use Rattle.def_term.specs.Tree.{Tree, list}
use Rattle.def_spec.specs.Matching as matching
use Rattle.def_spec.specs.Matching.{Pattern, Bindings, Matches}
use Rattle.tn_spec.specs.Views.{pattern_seen, patterns_seen}
use Rattle.tn_spec.specs.declared.pattern.Pattern as code
use Rattle.tn_guard.specs.Views.{value_seen, list_view_seen}
use Rattle.tn_guard.specs.declared.list_view.ListView.{ListView}
use Rattle.tn_guard.specs.declared.value.Value.{Value}
use Rattle.tn_head.specs.Views.{binding_seen}
use Rattle.tn_head.specs.declared.bindings.Binding.{Binding}

abbrev pub IsMatchAnswer : Pattern → Tree → Option Bindings → Type 0
IsMatchAnswer p t None = (b : Bindings) → ¬ Matches p t b
IsMatchAnswer p t (Some b) = Matches p t b

-- the list of these elements, which is held against a head
abbrev pub list_seen : {A : Type 0} → ListView A → Tree
list_seen p = list (list_view_seen p)

-- what is bound once the pattern was held against the value
abbrev pub bound_on : {P A : Type 0} → code.Pattern P → Value A → List (Binding A) → Option Bindings
bound_on p v bs = matching.bind_on (pattern_seen p) (value_seen v) (map binding_seen bs)

-- once each pattern was held against its element
abbrev pub bound_each : {P A : Type 0} → Vec (code.Pattern P) P → ListView A → List (Binding A) → Option Bindings
bound_each ps parts bs = matching.bind_each (patterns_seen ps.items) (list_view_seen parts) (map binding_seen bs)

-- once the value was met at a variable
abbrev pub bound_at : {A : Type 0} → ℕ → Value A → List (Binding A) → Option Bindings
bound_at n v bs = matching.bind_on (matching.variable n) (value_seen v) (map binding_seen bs)

-- these bindings, where all matched
abbrev pub bound_if : {A : Type 0} → Bool → List (Binding A) → Option Bindings
bound_if matches bs = if matches then Some (map binding_seen bs) else None
