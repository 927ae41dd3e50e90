-- The term that spells an expression ("Match Specifications in Erlang", "Grammar").
-- Depends on expressions and on how a term is read as one.
use Rattle.std.specs.Prelude.{Bool, true, false, not, ◌&&◌, if◌then◌else◌, ◌∷◌, codes, decimal}
use Rattle.std.specs.Str.{bytes_eq}
use Rattle.def_term.specs.Tree.{Tree, int, atom, pid, tuple, list, Trees, none, more}
use Rattle.def_term.specs.Names.{Name, word}
use Rattle.def_spec.specs.Functions as fn
use Rattle.def_spec.specs.Functions.{Func}
use Rattle.def_spec.specs.Expressions.{Expr, bound_to, whole_list, all_bound, constant, tuple_of, list_of, call, and_also, or_else, perform, Exprs, no_exprs, and_expr}
use Rattle.def_spec.specs.Reading.{AtomKind, a_variable, a_wrong_variable, a_plain_atom, atom_kind}
use Rattle.def_trap.specs.Actions.{action_name}

-- what a function is called by
abbrev pub function_name : Func → Name
function_name fn.is_atom = codes "is_atom"
function_name fn.is_integer = codes "is_integer"
function_name fn.is_list = codes "is_list"
function_name fn.is_tuple = codes "is_tuple"
function_name fn.is_pid = codes "is_pid"
function_name fn.is_number = codes "is_number"
function_name fn.is_boolean = codes "is_boolean"
function_name fn.is_float = codes "is_float"
function_name fn.is_port = codes "is_port"
function_name fn.is_reference = codes "is_reference"
function_name fn.is_map = codes "is_map"
function_name fn.is_binary = codes "is_binary"
function_name fn.is_bitstring = codes "is_bitstring"
function_name fn.is_function = codes "is_function"
function_name fn.head = codes "hd"
function_name fn.tail = codes "tl"
function_name fn.length = codes "length"
function_name fn.size = codes "size"
function_name fn.tuple_size = codes "tuple_size"
function_name fn.element = codes "element"
function_name fn.absolute = codes "abs"
function_name fn.add = codes "+"
function_name fn.subtract = codes "-"
function_name fn.multiply = codes "*"
function_name fn.divide = codes "div"
function_name fn.remainder = codes "rem"
function_name fn.bit_and = codes "band"
function_name fn.bit_or = codes "bor"
function_name fn.bit_xor = codes "bxor"
function_name fn.bit_not = codes "bnot"
function_name fn.greater = codes ">"
function_name fn.greater_or_equal = codes ">="
function_name fn.less = codes "<"
function_name fn.less_or_equal = codes "=<"
function_name fn.equal = codes "=="
function_name fn.exactly_equal = codes "=:="
function_name fn.not_equal = codes "/="
function_name fn.exactly_not_equal = codes "=/="
function_name fn.own_pid = codes "self"
function_name fn.own_node = codes "node"
function_name fn.all_of = codes "and"
function_name fn.one_of = codes "or"
function_name fn.just_one_of = codes "xor"
function_name fn.is_false = codes "not"

-- an atom of `$` and digits isn't plain
abbrev pub is_plain : AtomKind → Bool
is_plain (a_variable n) = false
is_plain a_wrong_variable = false
is_plain a_plain_atom = true

-- an atom that is read as itself: no variable, `'$_'` or `'$$'`
abbrev pub is_itself : Name → Bool
is_itself s = is_plain (atom_kind s) && (not (bytes_eq s (codes "$_")) && not (bytes_eq s (codes "$$")))

-- a term that is read as itself
abbrev pub reads_as_itself : Tree → Bool
reads_as_itself (int z) = true
reads_as_itself (atom s) = is_itself s
reads_as_itself (pid n) = true
reads_as_itself (tuple ts) = false
reads_as_itself (list ts) = false

-- the term where it is read as itself, else {const,T}
abbrev pub constant_spelling : Tree → Tree
constant_spelling t = if reads_as_itself t then t else tuple (more (word "const") (more t none))

-- {NAME,E1,..}
abbrev pub named_tuple : Name → Trees → Tree
named_tuple s ts = tuple (more (atom s) ts)

abbrev mutual
  -- the term that spells an expression
  pub spelling : Expr → Tree
  spelling (bound_to n) = atom (36 ∷ decimal n)
  spelling whole_list = word "$_"
  spelling all_bound = word "$$"
  spelling (constant t) = constant_spelling t
  spelling (tuple_of es) = tuple (more (tuple (spellings es)) none)
  spelling (list_of es) = list (spellings es)
  spelling (call f es) = named_tuple (function_name f) (spellings es)
  spelling (and_also es) = named_tuple (codes "andalso") (spellings es)
  spelling (or_else es) = named_tuple (codes "orelse") (spellings es)
  spelling (perform a es) = named_tuple (action_name a) (spellings es)

  -- those of several expressions
  pub spellings : Exprs → Trees
  spellings no_exprs = none
  spellings (and_expr e es) = more (spelling e) (spellings es)
