-- Names that are lent, and variables that are bound.
use Rattle.std.specs.Prelude.{◌≡◌, Bool, List, [], ◌++◌, map, option_to_list}
use Rattle.std.specs.BTreeMap.{BTreeMap}
use Rattle.def_term.specs.Text.{is_among}
use Rattle.def_term.specs.Names.{Name}
use Rattle.def_script.specs.Program.{Step, Function}
use Rattle.def_script.specs.Rules.{any_has_other, any_with_earlier, bound_before, terms_of, target_of_step}
use denote.Ref.{Bor}

abbrev pub name_pair : Bor Name × Bor Name → Name × Name
name_pair p = (p.0.now, p.1.now)

-- the names of a map
abbrev pub names_in : {X : Type 0} → BTreeMap (Bor Name) X → List Name
names_in m = map (λ e. e.0.now) m.entries

-- each name is in both lists or in neither
abbrev pub HaveSame : List Name → List Name → Type 0
HaveSame xs ys = (q : Name) → is_among xs q ≡ is_among ys q

-- whatever names the map had, it has these besides
abbrev pub AddsNames : {X : Type 0} → BTreeMap (Bor Name) X → BTreeMap (Bor Name) X → List Name → Type 0
AddsNames old new more = (xs : List Name) → HaveSame (names_in old) xs → HaveSame (names_in new) (xs ++ more)

-- the variable that the step binds, if it binds one
abbrev pub target_names : Step → List Name
target_names s = option_to_list (target_of_step s)

-- a variable stands in a step of the function where it isn't bound
abbrev pub has_unbound_step : Function → Bool
has_unbound_step k = any_with_earlier (λ before s. any_has_other (bound_before k.params before) (terms_of s)) [] k.steps
