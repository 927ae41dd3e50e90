-- Patterns, expressions and terms of several parts, as a tuple or as a list.
use Rattle.std.specs.Option.{option_map}
use Rattle.std.specs.declared.vec.Vec.{Vec}
use Rattle.def_term.specs.Tree.{Tree, tuple, list, Trees}
use Rattle.def_spec.specs.Matching as matching
use Rattle.def_spec.specs.Matching.{Patterns, in_tuple, in_list}
use Rattle.def_spec.specs.Expressions.{Expr, Exprs, tuple_of, list_of}
use Rattle.def_machine.specs.HeadFolds.{fold_head, folded_each}
use Rattle.def_machine.specs.ExprFolds.{constant_terms, constant_or}
use Rattle.tn_code.specs.declared.instr.Kind.{Kind}
use Rattle.tn_code.specs.declared.instr.Kind.TheVariants as kinds
use Rattle.tn_spec.specs.Views.{patterns_seen}
use Rattle.tn_spec.specs.declared.pattern.Pattern.{Pattern}

abbrev pub shape_pattern : Kind → Patterns → matching.Pattern
shape_pattern kinds.Tuple ps = in_tuple ps
shape_pattern kinds.List ps = in_list ps

abbrev pub shape_term : Kind → Trees → Tree
shape_term kinds.Tuple ts = tuple ts
shape_term kinds.List ts = list ts

abbrev pub shape_expr : Kind → Exprs → Expr
shape_expr kinds.Tuple es = tuple_of es
shape_expr kinds.List es = list_of es

-- what a tuple or list of folded expressions is folded to
abbrev pub shape_folded : Kind → Exprs → Expr
shape_folded k es = constant_or (option_map (shape_term k) (constant_terms es)) (shape_expr k es)

-- what a tuple or list of patterns is folded to
abbrev pub parts_folded : {A : Type 0} → Kind → Vec (Pattern A) A → matching.Pattern
parts_folded k v = fold_head (shape_pattern k (patterns_seen v.items))

-- each pattern folded
abbrev pub each_folded : {A : Type 0} → Vec (Pattern A) A → Patterns
each_folded v = folded_each (patterns_seen v.items)
