-- The definitions of differences, of the code's patterns and values.
use Rattle.std.specs.Prelude.{◌≡◌, ℕ, ◌==◌, if◌then◌else◌, List, map, Option, Some, None}
use Rattle.std.specs.declared.vec.Vec.{Vec}
use Rattle.def_term.specs.Tree.{Tree, Trees, count}
use Rattle.def_spec.specs.Matching as matching
use Rattle.def_explain.specs.Mismatches as mismatches
use Rattle.tn_spec.specs.Views.{pattern_seen, patterns_seen, head_seen}
use Rattle.tn_spec.specs.declared.pattern.Pattern.{Pattern}
use Rattle.tn_spec.specs.declared.pattern.Head.{Head}
use Rattle.tn_guard.specs.Views.{value_seen, list_view_seen}
use Rattle.tn_guard.specs.declared.list_view.ListView.{ListView}
use Rattle.tn_guard.specs.declared.value.Value.{Value}
use Rattle.tn_head.specs.Matching.{list_seen}
use Rattle.tn_head.specs.Views.{binding_seen}
use Rattle.tn_head.specs.declared.bindings.Binding.{Binding}
use Rattle.tn_mismatch.specs.declared.mismatch.Mismatch.{Mismatch}
use Rattle.tn_mismatch.specs.Views.{mismatch_seen}

-- where a head first differs from the list of these elements
abbrev pub first_mismatch_of : {P A : Type 0} → Head P → ListView A → Option mismatches.Mismatch
first_mismatch_of h list = mismatches.mismatch_of (head_seen h) (list_seen list)

-- a pattern and a value, with what is bound before
abbrev pub mismatch_after : {P A : Type 0} → Pattern P → Value A → List (Binding A) → Option mismatches.Mismatch
mismatch_after p v bs = mismatches.mismatch_on (pattern_seen p) (value_seen v) (map binding_seen bs)

-- a variable and a value
abbrev pub mismatch_at : {A : Type 0} → ℕ → Value A → List (Binding A) → Option mismatches.Mismatch
mismatch_at n v bs = mismatches.mismatch_on (matching.variable n) (value_seen v) (map binding_seen bs)

-- patterns and their elements
abbrev pub mismatch_among : {P A : Type 0} → Vec (Pattern P) P → ListView A → List (Binding A) → Option mismatches.Mismatch
mismatch_among ps parts bs = mismatches.mismatch_in 0 (patterns_seen ps.items) (list_view_seen parts) (map binding_seen bs)

-- these elements, where there are so many
abbrev pub of_length : ℕ → Option Trees → Option Trees
of_length n None = None
of_length n (Some ts) = if n == count ts then Some ts else None

-- the difference, or none and what is bound then
abbrev pub IsWalk : {A : Type 0} → Option (Mismatch A) → Option mismatches.Mismatch → Option matching.Bindings → List (Binding A) → Type 0
IsWalk None m b bs = (m ≡ None) × (b ≡ Some (map binding_seen bs))
IsWalk (Some x) m b bs = m ≡ Some (mismatch_seen x)
