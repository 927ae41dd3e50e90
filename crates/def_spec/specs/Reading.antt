-- How a term is read as a specification: the clauses that it spells, or the first fault ("Match Specifications in Erlang", "Grammar").
-- Depends on terms, patterns, functions and expressions.
-- Which fault is the first is this project's own: clauses in order; of a clause its shape, then head, conditions and body, left to right; of an expression first itself, then its arguments.
use Rattle.std.specs.Prelude.{ℕ, ◌==◌, nat_le, Bool, true, false, not, ◌&&◌, if◌then◌else◌, List, [], ◌∷◌, length, Option, Some, None, Result, Ok, Err, codes}
use Rattle.std.specs.Str.{bytes_eq}
use Rattle.def_term.specs.Tree.{Tree, int, atom, pid, tuple, list, Trees, none, more, count}
use Rattle.def_term.specs.Names.{Name}
use Rattle.def_term.specs.Text.{is_digit, number_after, is_among}
use Rattle.def_spec.specs.Matching.{Pattern, variable, anything, only_term, in_tuple, in_list, Patterns, no_patterns, and_pattern, occurs}
use Rattle.def_spec.specs.Functions as fn
use Rattle.def_spec.specs.Functions.{Func}
use Rattle.def_spec.specs.Expressions.{Dialect, for_calls, for_sends, for_receives, Action, message, return_trace, exception_trace, silent, enable_trace, disable_trace, trace, caller, Expr, bound_to, whole_list, all_bound, constant, tuple_of, list_of, call, and_also, or_else, perform, Exprs, no_exprs, and_expr, Position, in_condition, in_body}
use Rattle.def_spec.specs.Outcome.{Clause, Spec}

-- `badarg`, or `{unsupported,Name}`
pub data SpecFault : Type 0 where
  badarg : SpecFault
  -- an unsupported function, by its name
  unsupported : Name → SpecFault

-- what is read, or a fault
abbrev pub Reads : Type 0 → Type 0
Reads X = Result X SpecFault

-- goes on with what is read; the first fault is the fault of the whole
abbrev pub then_read : {X Y : Type 0} → Reads X → (X → Reads Y) → Reads Y
then_read (Ok x) f = f x
then_read (Err e) f = Err e

-- ---- variables

-- each character is a digit
abbrev pub all_digits : List ℕ → Bool
all_digits [] = true
all_digits (c ∷ cs) = is_digit c && all_digits cs

-- `$` and one or more digits
abbrev pub is_dollar_number : Name → Bool
is_dollar_number [] = false
is_dollar_number (c ∷ []) = false
is_dollar_number (c ∷ d ∷ ds) = (c == 36) && all_digits (d ∷ ds)

-- from 0 to 999, without leading zeros
abbrev pub is_plain_number : List ℕ → Bool
is_plain_number [] = false
is_plain_number (d ∷ []) = true
is_plain_number (d ∷ e ∷ ds) = not (d == 48) && nat_le (length (d ∷ e ∷ ds)) 3

-- what an atom is in a head or an expression
pub data AtomKind : Type 0 where
  a_variable : ℕ → AtomKind
  -- `$` and digits that are no number of a variable
  a_wrong_variable : AtomKind
  a_plain_atom : AtomKind

-- the characters after `$`
abbrev pub digits_of : Name → List ℕ
digits_of [] = []
digits_of (c ∷ cs) = cs

-- any other atom of `$` and one or more digits is a fault (own)
abbrev pub atom_kind : Name → AtomKind
atom_kind s =
    if is_dollar_number s
    then (if is_plain_number (digits_of s) then a_variable (number_after 0 (digits_of s)) else a_wrong_variable)
    else a_plain_atom

-- the atom '_'
abbrev pub is_wildcard : Name → Bool
is_wildcard s = bytes_eq s (codes "_")

-- ---- heads

-- an atom as a pattern; `$_` and `$$` are plain atoms in a head (own)
abbrev pub pattern_of_kind : Name → AtomKind → Reads Pattern
pattern_of_kind s (a_variable n) = Ok (variable n)
pattern_of_kind s a_wrong_variable = Err badarg
pattern_of_kind s a_plain_atom = Ok (if is_wildcard s then anything else only_term (atom s))

abbrev mutual
  -- a variable, '_', a tuple or list of patterns, or any other term, which matches itself alone
  pub pattern_of : Tree → Reads Pattern
  pattern_of (int z) = Ok (only_term (int z))
  pattern_of (atom s) = pattern_of_kind s (atom_kind s)
  pattern_of (pid n) = Ok (only_term (pid n))
  pattern_of (tuple ts) = then_read (patterns_of ts) (λ ps. Ok (in_tuple ps))
  pattern_of (list ts) = then_read (patterns_of ts) (λ ps. Ok (in_list ps))

  -- each element, left to right
  pub patterns_of : Trees → Reads Patterns
  patterns_of none = Ok no_patterns
  patterns_of (more t ts) = then_read (pattern_of t) (λ p. then_read (patterns_of ts) (λ ps. Ok (and_pattern p ps)))

-- an atom as a whole head
abbrev pub head_of_kind : Name → AtomKind → Reads Pattern
head_of_kind s (a_variable n) = Ok (variable n)
head_of_kind s a_wrong_variable = Err badarg
head_of_kind s a_plain_atom = if is_wildcard s then Ok anything else Err badarg

-- a variable, '_', or a list of patterns
abbrev pub head_of : Tree → Reads Pattern
head_of (atom s) = head_of_kind s (atom_kind s)
head_of (list ts) = then_read (patterns_of ts) (λ ps. Ok (in_list ps))
head_of _ = Err badarg

-- ---- names of functions

-- a function, `andalso` or `orelse`, or an action
pub data Callee : Type 0 where
  a_function : Func → Callee
  an_and_also : Callee
  an_or_else : Callee
  an_action : Action → Callee

-- a name with what it calls, and the least and the greatest number of arguments, where there is a greatest. The numbers are this profile's (own)
pub record Row : Type 0 where
  pub name : Name
  pub called : Callee
  pub least : ℕ
  pub most : Option ℕ

-- a row of the table
abbrev pub row : Name → Callee → ℕ → Option ℕ → Row
row s c least most = record { name = s; called = c; least = least; most = most }

-- a function with so many arguments
abbrev pub with_args : ℕ → Name → Func → Row
with_args n s f = row s (a_function f) n (Some n)

-- with one argument or more
abbrev pub with_some : Name → Callee → Row
with_some s c = row s c 1 None

-- the functions of conditions and bodies, and the actions of bodies; that is_boolean and is_bitstring are allowed is (own)
abbrev pub table : List Row
table =
    with_args 1 (codes "is_atom") fn.is_atom ∷ with_args 1 (codes "is_integer") fn.is_integer ∷ with_args 1 (codes "is_list") fn.is_list ∷ with_args 1 (codes "is_tuple") fn.is_tuple ∷ with_args 1 (codes "is_pid") fn.is_pid
    ∷ with_args 1 (codes "is_number") fn.is_number ∷ with_args 1 (codes "is_boolean") fn.is_boolean
    ∷ with_args 1 (codes "is_float") fn.is_float ∷ with_args 1 (codes "is_port") fn.is_port ∷ with_args 1 (codes "is_reference") fn.is_reference ∷ with_args 1 (codes "is_map") fn.is_map ∷ with_args 1 (codes "is_binary") fn.is_binary ∷ with_args 1 (codes "is_bitstring") fn.is_bitstring ∷ with_args 1 (codes "is_function") fn.is_function
    ∷ with_args 1 (codes "hd") fn.head ∷ with_args 1 (codes "tl") fn.tail ∷ with_args 1 (codes "length") fn.length ∷ with_args 1 (codes "size") fn.size ∷ with_args 1 (codes "tuple_size") fn.tuple_size ∷ with_args 2 (codes "element") fn.element
    ∷ with_args 1 (codes "abs") fn.absolute ∷ with_args 2 (codes "+") fn.add ∷ with_args 2 (codes "-") fn.subtract ∷ with_args 2 (codes "*") fn.multiply ∷ with_args 2 (codes "div") fn.divide ∷ with_args 2 (codes "rem") fn.remainder
    ∷ with_args 2 (codes "band") fn.bit_and ∷ with_args 2 (codes "bor") fn.bit_or ∷ with_args 2 (codes "bxor") fn.bit_xor ∷ with_args 1 (codes "bnot") fn.bit_not
    ∷ with_args 2 (codes ">") fn.greater ∷ with_args 2 (codes ">=") fn.greater_or_equal ∷ with_args 2 (codes "<") fn.less ∷ with_args 2 (codes "=<") fn.less_or_equal
    ∷ with_args 2 (codes "==") fn.equal ∷ with_args 2 (codes "=:=") fn.exactly_equal ∷ with_args 2 (codes "/=") fn.not_equal ∷ with_args 2 (codes "=/=") fn.exactly_not_equal
    ∷ with_args 0 (codes "self") fn.own_pid ∷ row (codes "node") (a_function fn.own_node) 0 (Some 1)
    ∷ with_some (codes "and") (a_function fn.all_of) ∷ with_some (codes "or") (a_function fn.one_of) ∷ with_some (codes "andalso") an_and_also ∷ with_some (codes "orelse") an_or_else
    ∷ with_args 2 (codes "xor") fn.just_one_of ∷ with_args 1 (codes "not") fn.is_false
    ∷ row (codes "message") (an_action message) 1 (Some 1) ∷ row (codes "return_trace") (an_action return_trace) 0 (Some 0) ∷ row (codes "exception_trace") (an_action exception_trace) 0 (Some 0) ∷ row (codes "silent") (an_action silent) 1 (Some 1)
    ∷ row (codes "enable_trace") (an_action enable_trace) 1 (Some 2) ∷ row (codes "disable_trace") (an_action disable_trace) 1 (Some 2) ∷ row (codes "trace") (an_action trace) 2 (Some 3) ∷ row (codes "caller") (an_action caller) 0 (Some 0)
    ∷ []

-- functions of the OTP documentation that this profile leaves out
abbrev pub unsupported_names : List Name
unsupported_names =
    codes "is_record" ∷ codes "is_seq_trace" ∷ codes "set_seq_token" ∷ codes "get_seq_token" ∷ codes "set_tcw" ∷ codes "get_tcw" ∷ codes "display" ∷ codes "process_dump" ∷ codes "caller_line" ∷ codes "current_stacktrace"
    ∷ codes "bsl" ∷ codes "bsr" ∷ codes "max" ∷ codes "min" ∷ codes "float" ∷ codes "round" ∷ codes "trunc" ∷ codes "ceil" ∷ codes "floor" ∷ codes "map_get" ∷ codes "map_size" ∷ codes "is_map_key" ∷ codes "bit_size" ∷ codes "byte_size" ∷ codes "binary_part" ∷ []

-- the row of a name, where the table has one
abbrev pub found_in : List Row → Name → Option Row
found_in [] s = None
found_in (r ∷ rs) s = if bytes_eq r.name s then Some r else found_in rs s

-- the actions that a dialect has
abbrev pub has_action : Dialect → Action → Bool
has_action d message = true
has_action d return_trace = true
has_action d exception_trace = true
has_action for_calls a = true
has_action for_sends caller = false
has_action for_sends a = true
has_action for_receives a = false

-- whether a call is allowed there: actions in bodies alone
abbrev pub is_allowed : Dialect → Position → Callee → Bool
is_allowed d in_condition (an_action a) = false
is_allowed d in_body (an_action a) = has_action d a
is_allowed d part _ = true

-- so many arguments are no more than the greatest number, where there is one
abbrev pub is_at_most : Option ℕ → ℕ → Bool
is_at_most None n = true
is_at_most (Some most) n = nat_le n most

-- so many arguments are allowed
abbrev pub takes : Row → ℕ → Bool
takes r n = nat_le r.least n && is_at_most r.most n

-- a name that isn't in the table, a wrong number of arguments, or a call that isn't allowed there is a fault
abbrev pub called_of : Dialect → Position → ℕ → Option Row → Reads Callee
called_of d part n None = Err badarg
called_of d part n (Some r) = if takes r n && is_allowed d part r.called then Ok r.called else Err badarg

-- what a name with so many arguments calls; an unsupported name is a fault of its own
abbrev pub named_call : Dialect → Position → Name → ℕ → Reads Callee
named_call d part s n = if is_among unsupported_names s then Err (unsupported s) else called_of d part n (found_in table s)

-- the expression of a call
abbrev pub call_of : Callee → Exprs → Expr
call_of (a_function f) es = call f es
call_of an_and_also es = and_also es
call_of an_or_else es = or_else es
call_of (an_action a) es = perform a es

-- ---- expressions

-- a variable that the head doesn't bind is a fault (own); any other atom is itself
abbrev pub atom_expr_of_kind : Pattern → Name → AtomKind → Reads Expr
atom_expr_of_kind head s (a_variable n) = if occurs n head then Ok (bound_to n) else Err badarg
atom_expr_of_kind head s a_wrong_variable = Err badarg
atom_expr_of_kind head s a_plain_atom =
    Ok (if bytes_eq s (codes "$_") then whole_list else if bytes_eq s (codes "$$") then all_bound else constant (atom s))

-- {const,T}
abbrev pub is_constant : Name → Trees → Bool
is_constant s ts = bytes_eq s (codes "const") && count ts == 1

-- the T of {const,T}
abbrev pub only_element : Trees → Tree
only_element none = tuple none
only_element (more t ts) = t

module _ (d : Dialect) (part : Position) (head : Pattern) where
  abbrev mutual
    -- integers and pids are themselves
    pub expr_of : Tree → Reads Expr
    expr_of (int z) = Ok (constant (int z))
    expr_of (atom s) = atom_expr_of_kind head s (atom_kind s)
    expr_of (pid n) = Ok (constant (pid n))
    expr_of (list ts) = then_read (exprs_of ts) (λ es. Ok (list_of es))
    -- {{E1,..}} is a tuple
    expr_of (tuple (more (tuple ts) none)) = then_read (exprs_of ts) (λ es. Ok (tuple_of es))
    -- {const,T} is T, and {F,E1,..} a call; any other tuple is a fault (own)
    expr_of (tuple (more (atom s) ts)) =
        if is_constant s ts then Ok (constant (only_element ts)) else
        then_read (named_call d part s (count ts)) (λ f. then_read (exprs_of ts) (λ es. Ok (call_of f es)))
    expr_of (tuple _) = Err badarg

    -- several expressions, left to right
    pub exprs_of : Trees → Reads Exprs
    exprs_of none = Ok no_exprs
    exprs_of (more t ts) = then_read (expr_of t) (λ e. then_read (exprs_of ts) (λ es. Ok (and_expr e es)))

-- ---- clauses

-- the head, then the conditions, then the body
abbrev pub clause_of_parts : Dialect → Tree → Trees → Trees → Reads Clause
clause_of_parts d h cs bs =
    then_read (head_of h) (λ head. then_read (exprs_of d in_condition head cs) (λ conditions. then_read (exprs_of d in_body head bs) (λ body.
    Ok (record { head = head; conditions = conditions; body = body }))))

-- {Head,Conditions,Body}
abbrev pub clause_of : Dialect → Tree → Reads Clause
clause_of d (tuple (more h (more (list cs) (more (list bs) none)))) = clause_of_parts d h cs bs
clause_of d _ = Err badarg

-- in order
abbrev pub clauses_of : Dialect → Trees → Reads (List Clause)
clauses_of d none = Ok []
clauses_of d (more t ts) = then_read (clause_of d t) (λ k. then_read (clauses_of d ts) (λ ks. Ok (k ∷ ks)))

-- a nonempty list of clauses
abbrev pub spec_of : Dialect → Tree → Reads Spec
spec_of d (list (more t ts)) = then_read (clauses_of d (more t ts)) (λ ks. Ok (record { dialect = d; clauses = ks }))
spec_of d _ = Err badarg
