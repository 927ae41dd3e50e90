-- Heads, and the clauses of a specification so far.
use Rattle.std.specs.Prelude.{◌≡◌, ℕ, List, [], ◌∷◌, Option, Result, Ok, Err}
use Rattle.std.specs.Option.{option_map}
use Rattle.def_term.specs.Names.{Name}
use Rattle.def_term.specs.Tree.{Tree}
use Rattle.def_spec.specs.Expressions.{Dialect, in_body}
use Rattle.def_fun.specs.Trees.{FunExpr, FunClause}
use Rattle.def_fun.specs.Refusals.{OrRefusal, then_fun}
use Rattle.def_fun.specs.Variables as variables
use Rattle.def_fun.specs.Variables.{names_of, with_names}
use Rattle.def_fun.specs.Translation.{pattern_term, within_depth, HEAD_DEPTH, head_term, part_terms, list_term}
use Rattle.tn_fun.specs.Trees.{token_name}
use Rattle.tn_fun.specs.declared.token.Token.{Token}
use Rattle.tn_term.specs.Views.{tree_of}
use Rattle.tn_translation.specs.declared.fault.FunFault.{FunFault}
use Rattle.tn_translation.specs.declared.head.TranslatedHead.{TranslatedHead}
use Rattle.tn_translation.specs.declared.alternatives.SharedParts.{SharedParts}
use Rattle.tn_translation.specs.declared.spec_so_far.SpecSoFar.{SpecSoFar}
use Rattle.tn_translation.specs.declared.spec.FunSpec.{FunSpec}
use Rattle.tn_translation.specs.Faults.{fun_fault_seen, RefusedBy}
use Rattle.tn_translation.specs.Names.{clause_names_seen}
use Rattle.tn_translation.specs.Values.{term_row_seen}

-- the names of a clause, of the token that is the whole and the variables of the other part
abbrev pub matched_names : List ℕ → Option Token → List Name → variables.ClauseNames
matched_names text whole ss = record { of_whole = option_map (token_name text) whole; numbers = with_names (option_map (token_name text) whole) [] ss }

-- the term of that part
abbrev pub head_part_term : ℕ → FunExpr → variables.ClauseNames → OrRefusal Tree
head_part_term at e ns = then_fun (pattern_term ns e) (λ t. within_depth HEAD_DEPTH at t)

-- the definition has this head, with these names, or this refusal
abbrev pub GivesHead : {A : Type 0} → List ℕ → Result (TranslatedHead A) FunFault → OrRefusal Tree → variables.ClauseNames → Type 0
GivesHead text (Ok h) r ns = (r ≡ Ok (tree_of h.term)) × (clause_names_seen h.names ≡ ns)
GivesHead text (Err f) r ns = RefusedBy (fun_fault_seen text f) r

-- the clauses so far
abbrev pub clauses_so_far : {A : Type 0} → SpecSoFar A → List Tree
clauses_so_far s = term_row_seen s.clauses

-- the head and the body are those of the clause
pub record AreSharedParts {A : Type 0} (d : Dialect) (k : FunClause) (p : SharedParts A) : Type 0 where
  pub place : p.at ≡ k.at
  pub head : head_term k.head ≡ Ok (tree_of p.head)
  pub body : List Tree
  pub body_is : tree_of p.body ≡ list_term body
  pub body_terms : part_terms d in_body (names_of k.head) k.body ≡ Ok body

-- the conditions of the first guard; none where there is no guard
abbrev pub first_guard : List (List FunExpr) → List FunExpr
first_guard [] = []
first_guard (g ∷ gs) = g

-- the term of a specification with its text
abbrev pub spec_tree : {A : Type 0} → FunSpec A → Tree
spec_tree s = tree_of s.term
