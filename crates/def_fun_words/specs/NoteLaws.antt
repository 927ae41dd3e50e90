-- What is promised of the notes on funs (own): a note is there exactly where the tree has what is noted.
-- Depends on the fun's tree, its names and the notes.
use Rattle.std.specs.Prelude.{◌≡◌, ◌↔◌, ◌⊎◌, ℕ, true, List, Contains, codes}
use Rattle.def_fun.specs.Trees.{FunExpr, variable, whole, atom, strings, in_parens, call, list, list_onto, tuple, before, between, FunExprs, none, more, FunClause}
use Rattle.def_fun.specs.Variables.{matched_part, names_of, the_whole, anything_there, variable_kind}
use Rattle.def_fun_words.specs.Notes.{FunNote, whole_in_list, bindings_called, any_in_expression, test_ends_node, changes_flags, fun_notes}

-- an expression is another, or a part of it, by cases on the other
abbrev mutual
  pub IsPartOf : FunExpr → FunExpr → Type 0
  IsPartOf x (variable at s) = x ≡ variable at s
  IsPartOf x (whole at n) = x ≡ whole at n
  IsPartOf x (atom at s) = x ≡ atom at s
  IsPartOf x (strings at s ss) = x ≡ strings at s ss
  IsPartOf x (in_parens at e) = (x ≡ in_parens at e) ⊎ IsPartOf x e
  IsPartOf x (call at s es) = (x ≡ call at s es) ⊎ IsPartOfOne x es
  IsPartOf x (list at es) = (x ≡ list at es) ⊎ IsPartOfOne x es
  IsPartOf x (list_onto at es e) = (x ≡ list_onto at es e) ⊎ (IsPartOfOne x es ⊎ IsPartOf x e)
  IsPartOf x (tuple at es) = (x ≡ tuple at es) ⊎ IsPartOfOne x es
  IsPartOf x (before at o e) = (x ≡ before at o e) ⊎ IsPartOf x e
  IsPartOf x (between at o l r) = (x ≡ between at o l r) ⊎ (IsPartOf x l ⊎ IsPartOf x r)

  -- of one of several
  pub IsPartOfOne : FunExpr → FunExprs → Type 0
  IsPartOfOne x none = ⊥
  IsPartOfOne x (more e es) = IsPartOf x e ⊎ IsPartOfOne x es

-- of an expression of a guard or a body
abbrev pub IsInRow : FunExpr → List FunExpr → Type 0
IsInRow x es = (e : FunExpr) × Contains es e × IsPartOf x e

-- of one of the clause
abbrev pub IsInClause : FunExpr → FunClause → Type 0
IsInClause x k = ((g : List FunExpr) × Contains k.guards g × IsInRow x g) ⊎ IsInRow x k.body

-- what is matched has the name of the whole; a guard or the body has such a call, or `_`, which is no name of the whole
abbrev pub IsNoted : FunClause → FunNote → Type 0
IsNoted k (whole_in_list s at) = IsPartOf (variable at s) (matched_part k.head) × (variable_kind (names_of k.head) s ≡ the_whole)
IsNoted k (bindings_called at) = (es : FunExprs) × IsInClause (call at (codes "bindings") es) k
IsNoted k (any_in_expression at) = (s : List ℕ) × IsInClause (variable at s) k × (variable_kind (names_of k.head) s ≡ anything_there)
IsNoted k (test_ends_node s at) = (es : FunExprs) × IsInClause (call at s es) k × (changes_flags s ≡ true)

-- a note is there exactly where one of the clauses has it
abbrev pub NotesAreWhereTheyApply : Type 0
NotesAreWhereTheyApply = (ks : List FunClause) (x : FunNote) → Contains (fun_notes ks) x ↔ ((k : FunClause) × Contains ks k × IsNoted k x)
