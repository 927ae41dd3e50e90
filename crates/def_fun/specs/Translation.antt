-- What a fun is translated to: the term of a specification, or the first refusal.
-- Depends on trees, variables, constants, calls, limits and refusals. It is `ms_transform` (STDLIB) and `dbg:fun2ms/1` (Runtime_Tools); which refusal is the first is this project's own.
use Rattle.std.specs.Prelude.{ℕ, ◌==◌, nat_le, Bool, true, false, ◌&&◌, ◌||◌, if◌then◌else◌, List, [], ◌∷◌, ◌++◌, length, Option, Some, None, Ok, Err, pos, neg_ℤ}
use Rattle.def_term.specs.Tree.{Tree, int, list, Trees, none, more, elements, of_elements, count, depth, triple}
use Rattle.def_term.specs.Tree as term
use Rattle.std.specs.Str.{bytes_eq}
use Rattle.def_term.specs.Names.{Name, word}
use Rattle.def_term.specs.Text.{is_digit, w}
use Rattle.def_text.specs.Grammar.{of_codes}
use Rattle.def_text.specs.Limits.{LIST_LENGTH}
use Rattle.def_text.specs.Spelling.{LENGTH}
use Rattle.def_text.specs.Tokens.{all_are}
use Rattle.def_spec.specs.Expressions.{Dialect, Position, in_condition, in_body}
use Rattle.def_fun.specs.Operators as op
use Rattle.def_fun.specs.Operators.{FunOperator, operator_name}
use Rattle.def_fun.specs.Trees.{FunExpr, variable, whole, atom, strings, in_parens, call, list_onto, tuple, before, between, FunExprs, each_expr, first_byte, joined_codes, FunHead, alone, both, FunClause}
use Rattle.def_fun.specs.Trees as tree
use Rattle.def_fun.specs.Refusals.{too_deep_at, too_large_at, unbound, head_atom, list_with_tail, minus_alone, whole_head, OrRefusal, then_fun}
use Rattle.def_fun.specs.Variables.{name_of_variable, matched_part, ClauseNames, names_of, dollar_name, VariableKind, the_whole, anything_there, of_number, of_no_head, variable_kind}
use Rattle.def_fun.specs.Constants.{Computation, not_computed, gives, gives_too_large, computed_between, computed_before}
use Rattle.def_fun.specs.Calls.{FunCall, the_object, the_bindings, a_call, named_fun_call}

-- ---- variables

-- the greatest number of a variable is 999
abbrev pub VARIABLES : ℕ
VARIABLES = 999

-- the atom of a variable; in a head the 1,000th is too many, and in a guard or body one of no head is unbound
abbrev pub variable_term : Name → ℕ → VariableKind → OrRefusal Tree
variable_term s at the_whole = Ok (word "$_")
variable_term s at anything_there = Ok (word "_")
variable_term s at (of_number k) = if nat_le k VARIABLES then Ok (term.atom (dollar_name k)) else Err (too_large_at at)
variable_term s at of_no_head = Err (unbound s at)

-- ---- lists with a tail

-- the tail is a list or strings
abbrev pub is_proper_tail : FunExpr → Bool
is_proper_tail (tree.list at es) = true
is_proper_tail (list_onto at es e) = true
is_proper_tail (strings at s ss) = true
is_proper_tail (in_parens at e) = is_proper_tail e
is_proper_tail e = false

-- the elements of a list
abbrev pub elements_of_list : Tree → List Tree
elements_of_list (list ts) = elements ts
elements_of_list t = []

-- the elements with those of the tail, where there are no more than 4,096
abbrev pub onto_tail : ℕ → List Tree → Tree → OrRefusal Tree
onto_tail at ts t = if nat_le (length (ts ++ elements_of_list t)) LIST_LENGTH then Ok (list (of_elements (ts ++ elements_of_list t))) else Err (too_large_at at)

-- ---- heads

-- `$`, a sign or none, and digits
abbrev pub are_digits : List ℕ → Bool
are_digits [] = false
are_digits (d ∷ ds) = all_are is_digit (d ∷ ds)

-- with a sign or without
abbrev pub is_signed : List ℕ → Bool
is_signed [] = false
is_signed (c ∷ cs) = if (c == 43) || (c == 45) then are_digits cs else are_digits (c ∷ cs)

-- the atoms that a head has not ("fun head contains atom ..")
abbrev pub is_variable_atom : Name → Bool
is_variable_atom [] = false
is_variable_atom (c ∷ cs) = (c == 36) && is_signed cs

-- `-` before an integer
abbrev pub negative_integer : ℕ → FunExpr → OrRefusal Tree
negative_integer at (whole here n) = Ok (int (neg_ℤ (pos n)))
negative_integer at e = Err (minus_alone at)

module _ (ns : ClauseNames) where
  abbrev mutual
    -- variables are their atoms; integers, atoms and strings themselves; tuples and lists have their elements in order
    pub pattern_term : FunExpr → OrRefusal Tree
    pattern_term (variable at s) = variable_term s at (variable_kind ns s)
    pattern_term (whole at n) = Ok (int (pos n))
    pattern_term (atom at s) = if is_variable_atom s then Err (head_atom s at) else Ok (term.atom s)
    pattern_term (strings at s ss) = Ok (list (of_codes (joined_codes s ss)))
    pattern_term (tree.list at es) = then_fun (pattern_terms es) (λ ts. Ok (list (of_elements ts)))
    pattern_term (list_onto at es e) = then_fun (pattern_terms es) (λ ts. if is_proper_tail e then then_fun (pattern_term e) (λ t. onto_tail (first_byte e) ts t) else Err (list_with_tail (first_byte e)))
    pattern_term (tuple at es) = then_fun (pattern_terms es) (λ ts. Ok (term.tuple (of_elements ts)))
    pattern_term (before at o e) = negative_integer at e
    -- no pattern
    pattern_term (in_parens at e) = pattern_term e
    pattern_term (call at s es) = Err (minus_alone at)
    pattern_term (between at o l r) = Err (minus_alone at)

    -- each, left to right
    pub pattern_terms : FunExprs → OrRefusal (List Tree)
    pattern_terms tree.none = Ok []
    pattern_terms (tree.more e es) = then_fun (pattern_term e) (λ t. then_fun (pattern_terms es) (λ ts. Ok (t ∷ ts)))

-- a head may be 30 deep: a clause is two levels deeper
abbrev pub HEAD_DEPTH : ℕ
HEAD_DEPTH = 30

-- a guard or an expression of a body 29
abbrev pub PART_DEPTH : ℕ
PART_DEPTH = 29

-- a term that isn't too deep
abbrev pub within_depth : ℕ → ℕ → Tree → OrRefusal Tree
within_depth limit at t = if nat_le (depth t) limit then Ok t else Err (too_deep_at at)

-- the offset of a head
abbrev pub head_byte : FunHead → ℕ
head_byte (alone e) = first_byte e
head_byte (both a b) = first_byte a

-- the same name twice
abbrev pub is_same_name : Option Name → Option Name → Bool
is_same_name (Some n) (Some m) = bytes_eq n m
is_same_name n m = false

-- the name of a variable, or no characters
abbrev pub name_or_none : Option Name → Name
name_or_none (Some n) = n
name_or_none None = []

-- `N = N` would be the head '$_', which no specification has
abbrev pub head_term : FunHead → OrRefusal Tree
head_term (alone e) = then_fun (pattern_term (names_of (alone e)) e) (λ t. within_depth HEAD_DEPTH (first_byte e) t)
head_term (both a b) =
    if is_same_name (name_of_variable a) (name_of_variable b) then Err (whole_head (name_or_none (name_of_variable b)) (first_byte b))
    else then_fun (pattern_term (names_of (both a b)) (matched_part (both a b))) (λ t. within_depth HEAD_DEPTH (first_byte a) t)

-- ---- expressions

-- the term of an expression, and its value where it is a constant
pub record TranslatedExpr : Type 0 where
  pub becomes : Tree
  pub constant : Option Tree

-- a term alone
abbrev pub no_constant : Tree → TranslatedExpr
no_constant t = record { becomes = t; constant = None }

-- a constant, with its term
abbrev pub constant_as : Tree → Tree → TranslatedExpr
constant_as t v = record { becomes = t; constant = Some v }

-- a computed value
abbrev pub computed_value : Tree → TranslatedExpr
computed_value v = constant_as v v

-- an atom that begins with `$`
abbrev pub begins_with_dollar : Name → Bool
begins_with_dollar [] = false
begins_with_dollar (c ∷ cs) = c == 36

-- {const,A}
abbrev pub const_of : Tree → Tree
const_of t = term.tuple (more (word "const") (more t none))

-- an atom is itself, and one that begins with `$` is {const,A} ("Term constructions/literals")
abbrev pub atom_term : Name → Tree
atom_term s = if begins_with_dollar s then const_of (term.atom s) else term.atom s

-- the terms of several
abbrev pub all_terms : List TranslatedExpr → List Tree
all_terms [] = []
all_terms (x ∷ xs) = x.becomes ∷ all_terms xs

-- one more constant
abbrev pub with_constant : Option Tree → Option (List Tree) → Option (List Tree)
with_constant (Some v) (Some vs) = Some (v ∷ vs)
with_constant v vs = None

-- their values, where all are constants
abbrev pub all_constants : List TranslatedExpr → Option (List Tree)
all_constants [] = Some []
all_constants (x ∷ xs) = with_constant x.constant (all_constants xs)

-- the constant that is a list or tuple of constants
abbrev pub constant_of : (List Tree → Tree) → Option (List Tree) → Option Tree
constant_of f None = None
constant_of f (Some vs) = Some (f vs)

-- a list
abbrev pub list_term : List Tree → Tree
list_term ts = list (of_elements ts)

-- a one-tuple of a tuple ("Term constructions/literals")
abbrev pub doubled_tuple : List Tree → Tree
doubled_tuple ts = term.tuple (more (term.tuple (of_elements ts)) none)

-- a tuple of a name and terms
abbrev pub name_tuple : Name → List Tree → Tree
name_tuple s ts = term.tuple (more (term.atom s) (of_elements ts))

-- the values of a list's elements and its tail
abbrev pub constants_onto : Option (List Tree) → Option Tree → Option Tree
constants_onto (Some vs) (Some v) = Some (list (of_elements (vs ++ elements_of_list v)))
constants_onto vs v = None

-- an operator that is computed is its value; a `-` before an operand that isn't is refused (own); any other operator is a call
abbrev pub operator_translated : ℕ → FunOperator → List Tree → Computation → OrRefusal TranslatedExpr
operator_translated at o ts (gives v) = Ok (computed_value v)
operator_translated at o ts gives_too_large = Err (too_large_at at)
operator_translated at o ts not_computed = Ok (no_constant (name_tuple (operator_name o) ts))

-- where all operands are constants
abbrev pub computed_if_two : FunOperator → Option Tree → Option Tree → Computation
computed_if_two o (Some v) (Some u) = computed_between o v u
computed_if_two o v u = not_computed

-- where the operand is one
abbrev pub computed_if_one : FunOperator → Option Tree → Computation
computed_if_one o (Some v) = computed_before o v
computed_if_one o None = not_computed

-- `-` has two arguments in the table of functions
abbrev pub prefix_translated : ℕ → FunOperator → Tree → Computation → OrRefusal TranslatedExpr
prefix_translated at op.minus t not_computed = Err (minus_alone at)
prefix_translated at o t c = operator_translated at o (t ∷ []) c

-- a call by its name, with its arguments translated after that
abbrev pub call_translated : Name → FunCall → List TranslatedExpr → TranslatedExpr
call_translated s the_object xs = no_constant (word "$_")
call_translated s the_bindings xs = no_constant (word "$*")
call_translated s a_call xs = no_constant (name_tuple s (all_terms xs))

module _ (d : Dialect) (part : Position) (ns : ClauseNames) where
  abbrev mutual
    pub expr_translated : FunExpr → OrRefusal TranslatedExpr
    expr_translated (variable at s) = then_fun (variable_term s at (variable_kind ns s)) (λ t. Ok (no_constant t))
    expr_translated (whole at n) = Ok (computed_value (int (pos n)))
    expr_translated (atom at s) = Ok (constant_as (atom_term s) (term.atom s))
    -- no constant, as `ms_transform` has it
    expr_translated (strings at s ss) = Ok (no_constant (list (of_codes (joined_codes s ss))))
    expr_translated (in_parens at e) = expr_translated e
    expr_translated (call at s es) = then_fun (named_fun_call d part s (length (each_expr es)) at) (λ c. then_fun (exprs_translated es) (λ xs. Ok (call_translated s c xs)))
    expr_translated (tree.list at es) = then_fun (exprs_translated es) (λ xs. Ok (record { becomes = list_term (all_terms xs); constant = constant_of list_term (all_constants xs) }))
    expr_translated (list_onto at es e) =
        then_fun (exprs_translated es) (λ xs. if is_proper_tail e
        then then_fun (expr_translated e) (λ x. then_fun (onto_tail (first_byte e) (all_terms xs) x.becomes) (λ t. Ok (record { becomes = t; constant = constants_onto (all_constants xs) x.constant })))
        else Err (list_with_tail (first_byte e)))
    expr_translated (tuple at es) = then_fun (exprs_translated es) (λ xs. Ok (record { becomes = doubled_tuple (all_terms xs); constant = constant_of (λ vs. term.tuple (of_elements vs)) (all_constants xs) }))
    expr_translated (before at o e) = then_fun (expr_translated e) (λ x. prefix_translated at o x.becomes (computed_if_one o x.constant))
    expr_translated (between at o l r) = then_fun (expr_translated l) (λ x. then_fun (expr_translated r) (λ y. operator_translated at o (x.becomes ∷ y.becomes ∷ []) (computed_if_two o x.constant y.constant)))

    -- each, left to right
    pub exprs_translated : FunExprs → OrRefusal (List TranslatedExpr)
    exprs_translated tree.none = Ok []
    exprs_translated (tree.more e es) = then_fun (expr_translated e) (λ x. then_fun (exprs_translated es) (λ xs. Ok (x ∷ xs)))

  -- the term of a condition or of an expression of a body
  abbrev pub part_term : FunExpr → OrRefusal Tree
  part_term e = then_fun (expr_translated e) (λ x. within_depth PART_DEPTH (first_byte e) x.becomes)

  -- those of several, in order
  abbrev pub part_terms : List FunExpr → OrRefusal (List Tree)
  part_terms [] = Ok []
  part_terms (e ∷ es) = then_fun (part_term e) (λ t. then_fun (part_terms es) (λ ts. Ok (t ∷ ts)))

-- ---- clauses

-- {Head,Conditions,Body}, of one guard's conditions
abbrev pub alternative_term : Dialect → FunClause → List FunExpr → OrRefusal Tree
alternative_term d k g =
    then_fun (head_term k.head) (λ h. then_fun (part_terms d in_condition (names_of k.head) g) (λ cs. then_fun (part_terms d in_body (names_of k.head) k.body) (λ bs.
    Ok (triple h (list_term cs) (list_term bs)))))

-- without guards there is one alternative, without conditions
abbrev pub alternatives_of : List (List FunExpr) → List (List FunExpr)
alternatives_of [] = [] ∷ []
alternatives_of (g ∷ gs) = g ∷ gs

-- the clauses so far, where their text isn't longer than that of a script
abbrev pub within_length : ℕ → List Tree → OrRefusal (List Tree)
within_length at ts = if nat_le (length (w (list_term ts))) LENGTH then Ok ts else Err (too_large_at at)

-- the clauses so far with those of some alternatives
abbrev pub with_alternatives : Dialect → FunClause → List Tree → List (List FunExpr) → OrRefusal (List Tree)
with_alternatives d k ts [] = Ok ts
with_alternatives d k ts (g ∷ gs) = then_fun (alternative_term d k g) (λ t. then_fun (within_length k.at (ts ++ t ∷ [])) (λ us. with_alternatives d k us gs))

-- the clauses so far with those of the fun's clauses, in their order: a clause for each guard, with the same head and body
abbrev pub with_fun_clauses : Dialect → List Tree → List FunClause → OrRefusal (List Tree)
with_fun_clauses d ts [] = Ok ts
with_fun_clauses d ts (k ∷ ks) = then_fun (with_alternatives d k ts (alternatives_of k.guards)) (λ us. with_fun_clauses d us ks)

-- the specification
abbrev pub tree_of_fun : Dialect → List FunClause → OrRefusal Tree
tree_of_fun d ks = then_fun (with_fun_clauses d [] ks) (λ ts. Ok (list_term ts))
