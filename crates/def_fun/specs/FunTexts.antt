-- The way back: the text of a fun that is translated to a specification, or why no fun is (own).
-- Depends on trees, calls, constants and translation. The specification is one that is read for the dialect.
use Rattle.std.specs.Prelude.{ℕ, suc, ◌+◌, ◌==◌, nat_le, nat_lt, max, Bool, true, false, not, ◌&&◌, ◌||◌, if◌then◌else◌, List, [], ◌∷◌, ◌++◌, map, flat_map, Option, Some, None, Result, Ok, Err, codes, decimal, pos, negsuc}
use Rattle.std.specs.Str.{bytes_eq}
use Rattle.def_term.specs.Tree.{Tree, Trees, count, elements, of_elements}
use Rattle.def_term.specs.Tree as term
use Rattle.def_term.specs.Names.{Name}
use Rattle.def_term.specs.Text.{atom_text, pid_text, w}
use Rattle.def_text.specs.Tokens.{is_printable}
use Rattle.def_spec.specs.Expressions.{Dialect, Position, in_condition, in_body}
use Rattle.def_spec.specs.Reading.{AtomKind, a_variable, atom_kind, is_wildcard}
use Rattle.def_fun.specs.Operators as op
use Rattle.def_fun.specs.Operators.{FunOperator, operator_name, operator_binding, level_of, left_level, right_level, PREFIX_LEVEL}
use Rattle.def_fun.specs.Trees as tree
use Rattle.def_fun.specs.Trees.{FunExpr, FunExprs, of_exprs}
use Rattle.def_fun.specs.Variables.{ANY, dollar_name}
use Rattle.def_fun.specs.Constants.{Computation, not_computed, gives, computed_between, computed_before}
use Rattle.def_fun.specs.Calls.{may_call}
use Rattle.def_fun.specs.Translation.{is_variable_atom, begins_with_dollar, with_constant, constant_of, list_term}
use Rattle.std.specs.Option.{unwrap_or}

-- ---- why no fun has it

-- the reasons, each with what it names
pub data NoFunReason : Type 0 where
  -- this number, where that one must come first
  wrong_order : ℕ → ℕ → NoFunReason
  no_head_atom : Name → NoFunReason
  no_pid : ℕ → NoFunReason
  no_dollar_atom : Name → NoFunReason
  no_other_const : Tree → NoFunReason
  no_such_call : Name → ℕ → NoFunReason
  is_computed : Tree → NoFunReason
  empty_body : NoFunReason

-- the words
abbrev pub no_fun_text : NoFunReason → List ℕ
no_fun_text (wrong_order k n) = atom_text (dollar_name k) ++ codes " comes before " ++ atom_text (dollar_name n) ++ codes ": the variables of a fun have the numbers from 1 in their order"
no_fun_text (no_head_atom s) = codes "a head of a fun has no atom " ++ atom_text s
no_fun_text (no_pid n) = codes "a fun has no pids, and " ++ pid_text n ++ codes " is one"
no_fun_text (no_dollar_atom s) = codes "no expression of a fun is " ++ atom_text s
no_fun_text (no_other_const t) = codes "a fun has {const,T} of atoms that begin with $ alone, and " ++ w t ++ codes " is another"
no_fun_text (no_such_call s n) = codes "a fun has no call " ++ s ++ codes "/" ++ decimal n
no_fun_text (is_computed t) = codes "a fun computes " ++ w t ++ codes " before it is a specification"
no_fun_text empty_body = codes "the body is empty, and that of a fun has an expression; true there has no effect"

-- where it is
pub data ClausePart : Type 0 where
  the_head : ClausePart
  the_condition : ℕ → ClausePart
  the_expression : ℕ → ClausePart
  the_body : ClausePart

-- the words
abbrev pub clause_part_text : ClausePart → List ℕ
clause_part_text the_head = codes "head"
clause_part_text (the_condition k) = codes "condition " ++ decimal k
clause_part_text (the_expression k) = codes "body " ++ decimal k
clause_part_text the_body = codes "body"

-- the number of the clause, the part, and the reason
pub record NoFun : Type 0 where
  pub clause : ℕ
  pub part : ClausePart
  pub reason : NoFunReason

-- the line on standard error
abbrev pub no_fun_line : NoFun → List ℕ
no_fun_line n = codes "no fun: clause " ++ decimal n.clause ++ codes ": " ++ clause_part_text n.part ++ codes ": " ++ no_fun_text n.reason

-- what is printed, or the reason
abbrev pub OrReason : Type 0 → Type 0
OrReason X = Result X NoFunReason

-- goes on with what is printed; the first reason is that of the whole
abbrev pub then_print : {X Y : Type 0} → OrReason X → (X → OrReason Y) → OrReason Y
then_print (Ok x) f = f x
then_print (Err r) f = Err r

-- ---- trees

-- The trees here have no place in a text yet: each offset is 0.

-- the variable of a number
abbrev pub numbered_variable : ℕ → FunExpr
numbered_variable k = tree.variable 0 (codes "X" ++ decimal k)

-- an integer; a negative one is `-` and its magnitude
abbrev pub integer_expr : Tree → FunExpr
integer_expr (term.int (pos n)) = tree.whole 0 n
integer_expr (term.int (negsuc n)) = tree.before 0 op.minus (tree.whole 0 (suc n))
integer_expr t = tree.atom 0 []

-- the code of an element from 32 to 126
abbrev pub is_character_code : Tree → Bool
is_character_code (term.int (pos c)) = is_printable c
is_character_code t = false

-- each element is one
abbrev pub are_character_codes : Trees → Bool
are_character_codes term.none = true
are_character_codes (term.more t ts) = is_character_code t && are_character_codes ts

-- a list with an element at least, each from 32 to 126, is a string
abbrev pub is_text : Trees → Bool
is_text term.none = false
is_text (term.more t ts) = are_character_codes (term.more t ts)

-- the code
abbrev pub character_code : Tree → ℕ
character_code (term.int (pos c)) = c
character_code t = 0

-- the string
abbrev pub string_expr : Trees → FunExpr
string_expr ts = tree.strings 0 (map character_code (elements ts)) []

-- ---- heads

-- a pattern, with the greatest number so far
abbrev pub PrintedPattern : Type 0
PrintedPattern = FunExpr × ℕ

-- patterns, with it
abbrev pub PrintedPatterns : Type 0
PrintedPatterns = FunExprs × ℕ

-- a variable's number is at most one above the greatest before it, and not 0
abbrev pub pattern_variable : ℕ → ℕ → OrReason PrintedPattern
pattern_variable g k = if (k == 0) || nat_lt (g + 1) k then Err (wrong_order k (g + 1)) else Ok (numbered_variable k, max g k)

-- an atom of a head
abbrev pub pattern_atom : ℕ → Name → AtomKind → OrReason PrintedPattern
pattern_atom g s (a_variable k) = pattern_variable g k
pattern_atom g s kind = if is_wildcard s then Ok (tree.variable 0 ANY, g) else (if is_variable_atom s then Err (no_head_atom s) else Ok (tree.atom 0 s, g))

abbrev mutual
  -- the pattern of a term, after the greatest number so far
  pub pattern_of_term : ℕ → Tree → OrReason PrintedPattern
  pattern_of_term g (term.int z) = Ok (integer_expr (term.int z), g)
  pattern_of_term g (term.atom s) = pattern_atom g s (atom_kind s)
  pattern_of_term g (term.pid n) = Err (no_pid n)
  pattern_of_term g (term.tuple ts) = then_print (patterns_of_terms g ts) (λ p. Ok (tree.tuple 0 p.0, p.1))
  pattern_of_term g (term.list ts) = if is_text ts then Ok (string_expr ts, g) else then_print (patterns_of_terms g ts) (λ p. Ok (tree.list 0 p.0, p.1))

  -- each, left to right
  pub patterns_of_terms : ℕ → Trees → OrReason PrintedPatterns
  patterns_of_terms g term.none = Ok (tree.none, g)
  patterns_of_terms g (term.more t ts) = then_print (pattern_of_term g t) (λ p. then_print (patterns_of_terms p.1 ts) (λ q. Ok (tree.more p.0 q.0, q.1)))

-- a whole head; a list is none that is printed as a string
abbrev pub head_of_term : Tree → OrReason PrintedPattern
head_of_term (term.list ts) = then_print (patterns_of_terms 0 ts) (λ p. Ok (tree.list 0 p.0, p.1))
head_of_term t = pattern_of_term 0 t

-- ---- expressions

-- how strongly an expression binds
abbrev pub expr_level : FunExpr → ℕ
expr_level (tree.between at o l r) = level_of (operator_binding o)
expr_level (tree.before at o e) = PREFIX_LEVEL
expr_level e = PREFIX_LEVEL + 1

-- in parentheses where it binds less
abbrev pub in_level : ℕ → FunExpr → FunExpr
in_level n e = if nat_le n (expr_level e) then e else tree.in_parens 0 e

-- ---- what keeps an operator from being computed

-- the expressions with the first that is changed
abbrev pub first_changed : Option FunExpr → FunExpr → Option FunExprs → FunExprs → Option FunExprs
first_changed (Some f) e o es = Some (tree.more f es)
first_changed None e (Some fs) es = Some (tree.more e fs)
first_changed None e None es = None

-- as a tuple
abbrev pub tuple_changed : Option FunExprs → Option FunExpr
tuple_changed (Some es) = Some (tree.tuple 0 es)
tuple_changed None = None

abbrev mutual
  -- the first list of an operand, or in a tuple of it, has the tail "", and an empty one is ""
  pub with_string : FunExpr → Option FunExpr
  with_string (tree.list at tree.none) = Some (tree.strings 0 [] [])
  with_string (tree.list at (tree.more e es)) = Some (tree.list_onto 0 (tree.more e es) (tree.strings 0 [] []))
  with_string (tree.tuple at es) = tuple_changed (with_string_in es)
  with_string (tree.variable at s) = None
  with_string (tree.whole at n) = None
  with_string (tree.atom at s) = None
  with_string (tree.strings at s ss) = None
  with_string (tree.in_parens at e) = None
  with_string (tree.call at s es) = None
  with_string (tree.list_onto at es e) = None
  with_string (tree.before at o e) = None
  with_string (tree.between at o l r) = None

  -- of several, left to right
  pub with_string_in : FunExprs → Option FunExprs
  with_string_in tree.none = None
  with_string_in (tree.more e es) = first_changed (with_string e) e (with_string_in es) es

-- ---- operators and calls

-- the operators between two operands
abbrev pub infix_operators : List FunOperator
infix_operators =
    op.or_else ∷ op.and_also ∷ op.equal ∷ op.not_equal ∷ op.less_or_equal ∷ op.less ∷ op.greater_or_equal ∷ op.greater ∷ op.exactly_equal ∷ op.exactly_not_equal
    ∷ op.plus ∷ op.minus ∷ op.bit_or ∷ op.bit_xor ∷ op.one_of ∷ op.just_one_of ∷ op.times ∷ op.divide ∷ op.remainder ∷ op.bit_and ∷ op.all_of ∷ []

-- those before one, but `-`, which specifications have with two arguments alone
abbrev pub prefix_operators : List FunOperator
prefix_operators = op.bit_not ∷ op.negation ∷ []

-- the one of that name
abbrev pub operator_named : List FunOperator → Name → Option FunOperator
operator_named [] s = None
operator_named (o ∷ os) s = if bytes_eq (operator_name o) s then Some o else operator_named os s

-- what a name with so many arguments is
pub data PrintedCall : Type 0 where
  prints_between : FunOperator → PrintedCall
  prints_before : FunOperator → PrintedCall
  prints_call : PrintedCall
  prints_nothing : PrintedCall

-- a call, where a fun may call it there
abbrev pub or_call : Dialect → Position → Name → ℕ → PrintedCall
or_call d part s n = if may_call d part s n then prints_call else prints_nothing

-- an operator, or else a call
abbrev pub between_or : Option FunOperator → PrintedCall → PrintedCall
between_or (Some o) c = prints_between o
between_or None c = c

-- the same of a prefix
abbrev pub before_or : Option FunOperator → PrintedCall → PrintedCall
before_or (Some o) c = prints_before o
before_or None c = c

-- by the number of arguments
abbrev pub printed_call : Dialect → Position → Name → ℕ → PrintedCall
printed_call d part s n = if n == 2 then between_or (operator_named infix_operators s) (or_call d part s n) else (if n == 1 then before_or (operator_named prefix_operators s) (or_call d part s n) else or_call d part s n)

-- ---- what a fun would compute

-- it would be computed
abbrev pub would_compute : Computation → Bool
would_compute not_computed = false
would_compute c = true

-- the computation of an operator of constants
abbrev pub computation_of : PrintedCall → Option (List Tree) → Computation
computation_of (prints_before o) (Some (v ∷ [])) = computed_before o v
computation_of (prints_between o) (Some (v ∷ u ∷ [])) = computed_between o v u
computation_of c vs = not_computed

-- its value, where it has one and no string keeps it
abbrev pub value_unless : Bool → Computation → Option Tree
value_unless false (gives v) = Some v
value_unless keeps c = None

-- an atom is a constant that is no variable and doesn't begin with `$`
abbrev pub value_of_atom : Name → AtomKind → Option Tree
value_of_atom s (a_variable k) = None
value_of_atom s kind = if is_wildcard s || begins_with_dollar s then None else Some (term.atom s)

-- {const,A}
abbrev pub value_of_const : Trees → Option Tree
value_of_const (term.more (term.atom s) term.none) = Some (term.atom s)
value_of_const ts = None

-- a list that is printed as no string, or a tuple in which one is
abbrev mutual
  pub has_list : Tree → Bool
  has_list (term.list ts) = not (is_text ts)
  has_list (term.tuple (term.more (term.tuple ts) term.none)) = have_list ts
  has_list (term.tuple ts) = false
  has_list (term.int z) = false
  has_list (term.atom s) = false
  has_list (term.pid n) = false

  -- one of several
  pub have_list : Trees → Bool
  have_list term.none = false
  have_list (term.more t ts) = has_list t || have_list ts

module _ (d : Dialect) (part : Position) where
  abbrev mutual
    -- the value of a term that is printed as a constant
    pub value_in_fun : Tree → Option Tree
    value_in_fun (term.int z) = Some (term.int z)
    value_in_fun (term.atom s) = value_of_atom s (atom_kind s)
    value_in_fun (term.pid n) = None
    value_in_fun (term.list ts) = if is_text ts then None else constant_of list_term (values_in_fun ts)
    value_in_fun (term.tuple (term.more (term.tuple ts) term.none)) = constant_of (λ vs. term.tuple (of_elements vs)) (values_in_fun ts)
    value_in_fun (term.tuple (term.more (term.atom s) ts)) = if bytes_eq s (codes "const") then value_of_const ts else value_unless (have_list ts) (computation_of (printed_call d part s (count ts)) (values_in_fun ts))
    value_in_fun (term.tuple ts) = None

    -- those of several, where all are constants
    pub values_in_fun : Trees → Option (List Tree)
    values_in_fun term.none = Some []
    values_in_fun (term.more t ts) = with_constant (value_in_fun t) (values_in_fun ts)

-- ---- expressions

-- an operator with its operands, as their levels say
abbrev pub operator_expr : FunOperator → FunExprs → FunExpr
operator_expr o (tree.more e tree.none) = tree.before 0 o (in_level PREFIX_LEVEL e)
operator_expr o (tree.more l (tree.more r tree.none)) = tree.between 0 o (in_level (left_level (operator_binding o)) l) (in_level (right_level (operator_binding o)) r)
operator_expr o es = tree.atom 0 []

-- with a string that keeps it from being computed, where it would be
abbrev pub operands_kept : Bool → FunExprs → FunExprs
operands_kept false es = es
operands_kept true es = unwrap_or (with_string_in es) es

-- an atom of an expression
abbrev pub atom_printed : Name → AtomKind → OrReason FunExpr
atom_printed s (a_variable k) = Ok (numbered_variable k)
atom_printed s kind =
    if is_wildcard s then Ok (tree.variable 0 ANY)
    else (if bytes_eq s (codes "$_") then Ok (tree.call 0 (codes "object") tree.none)
    else (if bytes_eq s (codes "$*") then Ok (tree.call 0 (codes "bindings") tree.none)
    else (if begins_with_dollar s then Err (no_dollar_atom s)
    else Ok (tree.atom 0 s))))

-- {const,T}
abbrev pub const_printed : Tree → Trees → OrReason FunExpr
const_printed t (term.more (term.atom s) term.none) = if begins_with_dollar s then Ok (tree.atom 0 s) else Err (no_other_const t)
const_printed t ts = Err (no_other_const t)

-- an operator that would be computed, where no string can keep it
abbrev pub unless_computed : Tree → Bool → Bool → OrReason FunExpr → OrReason FunExpr
unless_computed t true false r = Err (is_computed t)
unless_computed t computes keeps r = r

-- a call or an operator; its own reason is before those of its arguments
abbrev pub call_printed : PrintedCall → Name → Tree → Trees → Bool → OrReason FunExprs → OrReason FunExpr
call_printed (prints_between o) s t ts computes es = unless_computed t computes (have_list ts) (then_print es (λ fs. Ok (operator_expr o (operands_kept computes fs))))
call_printed (prints_before o) s t ts computes es = unless_computed t computes (have_list ts) (then_print es (λ fs. Ok (operator_expr o (operands_kept computes fs))))
call_printed prints_call s t ts computes es = then_print es (λ fs. Ok (tree.call 0 s fs))
call_printed prints_nothing s t ts computes es = Err (no_such_call s (count ts))

module _ (d : Dialect) (part : Position) where
  abbrev mutual
    -- the expression of a term
    pub expr_of_term : Tree → OrReason FunExpr
    expr_of_term (term.int z) = Ok (integer_expr (term.int z))
    expr_of_term (term.atom s) = atom_printed s (atom_kind s)
    expr_of_term (term.pid n) = Err (no_pid n)
    expr_of_term (term.list ts) = if is_text ts then Ok (string_expr ts) else then_print (exprs_of_terms ts) (λ es. Ok (tree.list 0 es))
    expr_of_term (term.tuple (term.more (term.tuple ts) term.none)) = then_print (exprs_of_terms ts) (λ es. Ok (tree.tuple 0 es))
    expr_of_term (term.tuple (term.more (term.atom s) ts)) =
        let c = printed_call d part s (count ts) in
        if bytes_eq s (codes "const") then const_printed (term.tuple (term.more (term.atom s) ts)) ts
        else call_printed c s (term.tuple (term.more (term.atom s) ts)) ts (would_compute (computation_of c (values_in_fun d part ts))) (exprs_of_terms ts)
    -- no expression
    expr_of_term (term.tuple ts) = Err (no_such_call [] (count ts))

    -- each, left to right
    pub exprs_of_terms : Trees → OrReason FunExprs
    exprs_of_terms term.none = Ok tree.none
    exprs_of_terms (term.more t ts) = then_print (expr_of_term t) (λ e. then_print (exprs_of_terms ts) (λ es. Ok (tree.more e es)))

-- ---- texts

-- between any two
abbrev pub joined_with : List ℕ → List (List ℕ) → List ℕ
joined_with s [] = []
joined_with s (u ∷ []) = u
joined_with s (u ∷ v ∷ us) = u ++ s ++ joined_with s (v ∷ us)

-- a quote and a backslash have a backslash before them
abbrev pub string_character : ℕ → List ℕ
string_character c = if (c == 34) || (c == 92) then 92 ∷ c ∷ [] else c ∷ []

-- in double quotes
abbrev pub string_text : List ℕ → List ℕ
string_text s = 34 ∷ (flat_map string_character s ++ 34 ∷ [])

-- an operator before its operand: `-` has no blank after it
abbrev pub prefix_text : FunOperator → List ℕ
prefix_text op.minus = codes "-"
prefix_text o = operator_name o ++ codes " "

abbrev mutual
  -- the text of an expression
  pub expr_text : FunExpr → List ℕ
  expr_text (tree.variable at s) = s
  expr_text (tree.whole at n) = decimal n
  expr_text (tree.atom at s) = atom_text s
  expr_text (tree.strings at s ss) = joined_with (codes " ") (map string_text (s ∷ ss))
  expr_text (tree.in_parens at e) = codes "(" ++ expr_text e ++ codes ")"
  expr_text (tree.call at s es) = atom_text s ++ codes "(" ++ joined_with (codes ", ") (expr_texts es) ++ codes ")"
  expr_text (tree.list at es) = codes "[" ++ joined_with (codes ", ") (expr_texts es) ++ codes "]"
  expr_text (tree.list_onto at es e) = codes "[" ++ joined_with (codes ", ") (expr_texts es) ++ codes "|" ++ expr_text e ++ codes "]"
  expr_text (tree.tuple at es) = codes "{" ++ joined_with (codes ", ") (expr_texts es) ++ codes "}"
  expr_text (tree.before at o e) = prefix_text o ++ expr_text e
  expr_text (tree.between at o l r) = expr_text l ++ codes " " ++ operator_name o ++ codes " " ++ expr_text r

  -- of several
  pub expr_texts : FunExprs → List (List ℕ)
  expr_texts tree.none = []
  expr_texts (tree.more e es) = expr_text e ∷ expr_texts es

-- ---- clauses

-- the clause and the part of a reason
abbrev pub reason_at : {X : Type 0} → ℕ → ClausePart → OrReason X → Result X NoFun
reason_at n p (Ok x) = Ok x
reason_at n p (Err r) = Err (record { clause = n; part = p; reason = r })

-- goes on with what is printed
abbrev pub then_clause : {X Y : Type 0} → Result X NoFun → (X → Result Y NoFun) → Result Y NoFun
then_clause (Ok x) f = f x
then_clause (Err r) f = Err r

-- conditions or a body's expressions, numbered from there on
abbrev pub parts_printed : Dialect → Position → ℕ → (ℕ → ClausePart) → ℕ → Trees → Result (List (List ℕ)) NoFun
parts_printed d part n p k term.none = Ok []
parts_printed d part n p k (term.more t ts) = then_clause (reason_at n (p k) (expr_of_term d part t)) (λ x. then_clause (parts_printed d part n p (k + 1) ts) (λ xs. Ok (expr_text x ∷ xs)))

-- ` when ..`, where there are conditions
abbrev pub when_text : List (List ℕ) → List ℕ
when_text [] = []
when_text (c ∷ cs) = codes " when " ++ joined_with (codes ", ") (c ∷ cs)

-- a body has an expression
abbrev pub body_printed : Dialect → ℕ → Trees → Result (List (List ℕ)) NoFun
body_printed d n term.none = Err (record { clause = n; part = the_body; reason = empty_body })
body_printed d n ts = parts_printed d in_body n the_expression 1 ts

-- (HEAD) when G, .. -> E, ..
abbrev pub clause_of_parts_printed : Dialect → ℕ → Tree → Trees → Trees → Result (List ℕ) NoFun
clause_of_parts_printed d n h cs bs =
    then_clause (reason_at n the_head (head_of_term h)) (λ p. then_clause (parts_printed d in_condition n the_condition 1 cs) (λ gs. then_clause (body_printed d n bs) (λ es.
    Ok (codes "(" ++ expr_text p.0 ++ codes ")" ++ when_text gs ++ codes " -> " ++ joined_with (codes ", ") es))))

-- {Head,Conditions,Body}; any other term is none of a specification
abbrev pub clause_printed : Dialect → ℕ → Tree → Result (List ℕ) NoFun
clause_printed d n (term.tuple (term.more h (term.more (term.list cs) (term.more (term.list bs) term.none)))) = clause_of_parts_printed d n h cs bs
clause_printed d n t = Err (record { clause = n; part = the_head; reason = no_such_call [] 0 })

-- in order, numbered from there on
abbrev pub clauses_printed : Dialect → ℕ → Trees → Result (List (List ℕ)) NoFun
clauses_printed d n term.none = Ok []
clauses_printed d n (term.more t ts) = then_clause (clause_printed d n t) (λ u. then_clause (clauses_printed d (n + 1) ts) (λ us. Ok (u ∷ us)))

-- further clauses come after `;`, a line feed and three blanks
abbrev pub CLAUSE_BREAK : List ℕ
CLAUSE_BREAK = codes ";" ++ 10 ∷ codes "   "

-- the fun
abbrev pub fun_text : List (List ℕ) → List ℕ
fun_text ks = codes "fun" ++ joined_with CLAUSE_BREAK ks ++ codes " end"

-- the text of a fun that has the specification, or why there is none
abbrev pub fun_printed : Dialect → Tree → Result (List ℕ) NoFun
fun_printed d (term.list ts) = then_clause (clauses_printed d 1 ts) (λ ks. Ok (fun_text ks))
fun_printed d t = Err (record { clause = 1; part = the_head; reason = no_such_call [] 0 })
