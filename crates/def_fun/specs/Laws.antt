-- What is promised of funs (own).
-- Depends on tokens, the grammar, reading and constants, and on def_spec's functions.
use Rattle.std.specs.Prelude.{◌≡◌, ◌≢◌, ℕ, true, Bool, List, [], ◌∷◌, Some, None, Ok, take, drop}
use Rattle.def_term.specs.Names.{Name}
use Rattle.def_term.specs.Text.{is_among}
use Rattle.def_term.specs.Tree.{Tree, list, Trees, count, triple}
use Rattle.def_spec.specs.Functions.{Func, apply}
use Rattle.def_spec.specs.Expressions.{Dialect, for_calls, for_sends, for_receives, Position}
use Rattle.def_spec.specs.Reading.{a_function, named_call}
use Rattle.def_fun.specs.Operators.{FunOperator, operator_name}
use Rattle.def_fun.specs.Constants.{gives, computed_between, computed_before}
use Rattle.def_fun.specs.Tokens.{FunToken, FunSpan, FunTokens, IsFunToken, HasNoFunToken}
use Rattle.def_fun.specs.Scan.{fun_token_at, fun_spans}
use Rattle.def_fun.specs.Trees.{FunExpr, FunHead, FunClause}
use Rattle.def_fun.specs.Variables.{variables_in, matched_part, names_of, number_among, IsNameOfNumber, of_no_head, variable_kind}
use Rattle.def_fun.specs.Limits.{spec_clauses}
use Rattle.def_fun.specs.Translation.{alternative_term, tree_of_fun}
use Rattle.def_fun.specs.Grammar.{DerivesFun}
use Rattle.def_fun.specs.Reading.{read_fun}

-- ---- tokens

-- a text has one list of tokens at most
abbrev pub FunTokensAreOne : Type 0
FunTokensAreOne = (bytes : List ℕ) (xs ys : List FunSpan) → FunTokens bytes xs → FunTokens bytes ys → xs ≡ ys

-- and each text has one
abbrev pub FunTokensAreThere : Type 0
FunTokensAreThere = (bytes : List ℕ) → (xs : List FunSpan) × FunTokens bytes xs

-- the token that is found is there
abbrev pub FoundTokenIsThere : Type 0
FoundTokenIsThere = (bytes : List ℕ) (t : FunToken) (n : ℕ) → fun_token_at bytes ≡ Some (t, n) → IsFunToken (take n bytes) (drop n bytes) t

-- and where none is found, none is there
abbrev pub NoTokenIsThere : Type 0
NoTokenIsThere = (bytes : List ℕ) → fun_token_at bytes ≡ None → HasNoFunToken bytes

-- the tokens that are listed are those of the text
abbrev pub ListedTokensAre : Type 0
ListedTokensAre = (bytes : List ℕ) → FunTokens bytes (fun_spans bytes)

-- ---- reading

-- the clauses that are read are spelled by the tokens
abbrev pub ReadFunIsDerived : Type 0
ReadFunIsDerived = (limit : ℕ) (sized : Bool) (ts : List FunSpan) (ks : List FunClause) → read_fun limit sized ts ≡ Ok ks → DerivesFun ts ks

-- ---- variables

-- the number of a head's variable is its place among the head's names, in the order of first occurrence
abbrev pub NumbersArePlaces : Type 0
NumbersArePlaces = (h : FunHead) (s : Name) (k : ℕ) → number_among 1 (names_of h).numbers s ≡ Some k → IsNameOfNumber (names_of h).numbers s k

-- and each place is the number of the name there, so that no name has two
abbrev pub PlacesAreNumbers : Type 0
PlacesAreNumbers = (h : FunHead) (s : Name) (k : ℕ) → IsNameOfNumber (names_of h).numbers s k → number_among 1 (names_of h).numbers s ≡ Some k

-- each variable of a head is the name of the whole, `_`, or one with a number
abbrev pub HeadBindsItsVariables : Type 0
HeadBindsItsVariables = (h : FunHead) (s : Name) → is_among (variables_in (matched_part h)) s ≡ true → variable_kind (names_of h) s ≢ of_no_head

-- ---- constants

-- what an operator of two constants gives is what the function gives that a specification calls by its name
abbrev pub ComputedOfTwoIsApplied : Type 0
ComputedOfTwoIsApplied = (d : Dialect) (part : Position) (o : FunOperator) (f : Func) (t u v : Tree) (n : ℕ) → named_call d part (operator_name o) 2 ≡ Ok (a_function f) → computed_between o t u ≡ gives v → apply f (t ∷ u ∷ []) n ≡ Some v

-- and so of one
abbrev pub ComputedOfOneIsApplied : Type 0
ComputedOfOneIsApplied = (d : Dialect) (part : Position) (o : FunOperator) (f : Func) (t v : Tree) (n : ℕ) → named_call d part (operator_name o) 1 ≡ Ok (a_function f) → computed_before o t ≡ gives v → apply f (t ∷ []) n ≡ Some v

-- ---- translation

-- the specification has a clause for each guard of a fun's clause, and one for a clause without guards
abbrev pub ClausesAreCounted : Type 0
ClausesAreCounted = (d : Dialect) (ks : List FunClause) (t : Tree) → tree_of_fun d ks ≡ Ok t → (ts : Trees) × (t ≡ list ts) × (count ts ≡ spec_clauses ks)

-- the clauses of one of the fun's clauses have the same head and the same body
abbrev pub HeadAndBodyAreShared : Type 0
HeadAndBodyAreShared = (d : Dialect) (k : FunClause) (g f : List FunExpr) (t u : Tree) → alternative_term d k g ≡ Ok t → alternative_term d k f ≡ Ok u → (h : Tree) × (cs : Tree) × (ds : Tree) × (b : Tree) × (t ≡ triple h cs b) × (u ≡ triple h ds b)

-- a fun that is translated for receives is so for sends, to the same term
abbrev pub ReceivesAsSends : Type 0
ReceivesAsSends = (ks : List FunClause) (t : Tree) → tree_of_fun for_receives ks ≡ Ok t → tree_of_fun for_sends ks ≡ Ok t

-- and one that is translated for sends is so for calls
abbrev pub SendsAsCalls : Type 0
SendsAsCalls = (ks : List FunClause) (t : Tree) → tree_of_fun for_sends ks ≡ Ok t → tree_of_fun for_calls ks ≡ Ok t
