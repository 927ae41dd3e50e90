-- What the code's values stand for.
use Rattle.std.specs.Prelude.{ℕ, List, map, Option, Some, None}
use Rattle.def_term.specs.Tree.{Tree, int, atom, pid, tuple, list, Trees, of_elements}
use Rattle.def_term.specs.Names.{Name, word}
use Rattle.tn_term.specs.Views.{tree_of, trees_of}
use Rattle.tn_guard.specs.declared.value.AtomConst.{AtomConst}
use Rattle.tn_guard.specs.declared.value.AtomConst.TheVariants as words
use Rattle.tn_guard.specs.declared.value.Value.{Value, fold-Value}
use Rattle.tn_guard.specs.declared.value.Value.TheOpen.{Value-F}
use Rattle.tn_guard.specs.declared.list_view.ListView.{ListView}
use Rattle.tn_guard.specs.declared.list_view.ListView.TheVariants as parts
use Rattle.tn_guard.specs.declared.shape.Shape.{Shape}
use Rattle.tn_guard.specs.declared.shape.Shape.TheVariants as shapes

abbrev pub atom_const_seen : AtomConst → Tree
atom_const_seen words.True = word "true"
atom_const_seen words.False = word "false"
atom_const_seen words.Node = word "nonode@nohost"
atom_const_seen words.Exit = word "EXIT"
atom_const_seen words.Undefined = word "undefined"

-- one level, with each part already seen
abbrev pub value_step : {A : Type 0} → Value-F A Tree → Tree
value_step (Value-F.Lent t) = tree_of t.now
value_step (Value-F.Rest ts) = list (trees_of ts.now)
value_step (Value-F.Name s) = atom s.now
value_step (Value-F.Int n) = int n
value_step (Value-F.Pid n) = pid n
value_step (Value-F.AtomConst w) = atom_const_seen w
value_step (Value-F.Tuple vs) = tuple (of_elements vs.now)
value_step (Value-F.List vs) = list (of_elements vs.now)

abbrev pub value_seen : {A : Type 0} → Value A → Tree
value_seen {A} = fold-Value A Tree value_step

abbrev pub values_seen : {A : Type 0} → List (Value A) → Trees
values_seen vs = of_elements (map value_seen vs)

abbrev pub parts_list : {A : Type 0} → ListView A → List Tree
parts_list (parts.Terms ts) = map tree_of ts.now
parts_list (parts.Values vs) = map value_seen vs.now

abbrev pub list_view_seen : {A : Type 0} → ListView A → Trees
list_view_seen p = of_elements (parts_list p)

abbrev pub shape_seen : {A : Type 0} → Shape A → Tree
shape_seen (shapes.Int n) = int n
shape_seen (shapes.Atom s) = atom s.now
shape_seen (shapes.Pid n) = pid n
shape_seen (shapes.Tuple p) = tuple (list_view_seen p)
shape_seen (shapes.List p) = list (list_view_seen p)

-- the text of an atom
abbrev pub text_in : Tree → Option Name
text_in (atom s) = Some s
text_in _ = None

-- the elements of a tuple
abbrev pub tuple_trees : Tree → Option Trees
tuple_trees (tuple ts) = Some ts
tuple_trees _ = None

-- the elements of a list
abbrev pub list_trees : Tree → Option Trees
list_trees (list ts) = Some ts
list_trees _ = None
