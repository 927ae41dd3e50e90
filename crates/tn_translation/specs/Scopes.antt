-- Expressions where they are.
use Rattle.std.specs.Prelude.{◌≡◌, ℕ, List}
use Rattle.def_term.specs.Tree.{Tree}
use Rattle.def_spec.specs.Expressions.{in_condition}
use Rattle.def_fun.specs.Trees.{FunExpr, FunExprs, FunClause}
use Rattle.def_fun.specs.Variables.{names_of}
use Rattle.def_fun.specs.Refusals.{OrRefusal}
use Rattle.def_fun.specs.Translation.{TranslatedExpr, expr_translated, exprs_translated, part_term, part_terms}
use Rattle.tn_spec.specs.Names.{position_seen}
use Rattle.tn_spec.specs.Views.{dialect_of}
use Rattle.tn_translation.specs.declared.expr.Scope.{Scope}
use Rattle.tn_translation.specs.Names.{clause_names_seen}

-- the text
abbrev pub text_of : {A : Type 0} → Scope A → List ℕ
text_of s = s.bytes.now

-- an expression, in the scope's dialect and part, with its names
abbrev pub translated_in : {A : Type 0} → Scope A → FunExpr → OrRefusal TranslatedExpr
translated_in s e = expr_translated (dialect_of s.dialect) (position_seen s.part) (clause_names_seen s.names.now) e

-- several
abbrev pub each_translated_in : {A : Type 0} → Scope A → FunExprs → OrRefusal (List TranslatedExpr)
each_translated_in s es = exprs_translated (dialect_of s.dialect) (position_seen s.part) (clause_names_seen s.names.now) es

-- the term of a condition, or of an expression of a body
abbrev pub part_term_in : {A : Type 0} → Scope A → FunExpr → OrRefusal Tree
part_term_in s e = part_term (dialect_of s.dialect) (position_seen s.part) (clause_names_seen s.names.now) e

-- the terms of conditions, or of the expressions of a body
abbrev pub part_terms_in : {A : Type 0} → Scope A → List FunExpr → OrRefusal (List Tree)
part_terms_in s es = part_terms (dialect_of s.dialect) (position_seen s.part) (clause_names_seen s.names.now) es

-- the scope of the conditions of a clause
abbrev pub IsConditionScope : {A : Type 0} → Scope A → FunClause → Type 0
IsConditionScope s k = (position_seen s.part ≡ in_condition) × (clause_names_seen s.names.now ≡ names_of k.head)
