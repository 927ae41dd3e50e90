-- The texts of terms as parts of a fun, where a fun has them: how the code writes them, from left to right.
use Rattle.std.specs.Prelude.{ℕ, nat_lt, Bool, true, false, not, ◌&&◌, if◌then◌else◌, List, [], ◌++◌, codes, decimal}
use Rattle.std.specs.Fmt.{signed_decimal}
use Rattle.std.specs.Str.{bytes_eq}
use Rattle.def_term.specs.Tree.{Tree, int, atom, pid, tuple, list, Trees, none, more, count}
use Rattle.def_term.specs.Names.{Name}
use Rattle.def_term.specs.Text.{atom_text}
use Rattle.def_spec.specs.Expressions.{Dialect, Position, in_condition, in_body}
use Rattle.def_spec.specs.Reading.{AtomKind, a_variable, atom_kind, is_wildcard}
use Rattle.def_fun.specs.Operators.{FunOperator, operator_name, operator_binding, level_of, left_level, right_level, PREFIX_LEVEL}
use Rattle.def_fun.specs.FunTexts.{is_text, character_code, string_character, has_list, PrintedCall, prints_between, prints_before, prints_call, prints_nothing, printed_call, would_compute, computation_of, values_in_fun, CLAUSE_BREAK}

-- `X` and a number
abbrev pub variable_text : ℕ → List ℕ
variable_text k = codes "X" ++ decimal k

-- the bytes, where they are wanted
abbrev pub only_if : Bool → List ℕ → List ℕ
only_if b u = if b then u else []

-- with these bytes on each side
abbrev pub with_ends : List ℕ → List ℕ → List ℕ → List ℕ
with_ends left u right = left ++ u ++ right

-- the characters of a string
abbrev pub each_character : Trees → List ℕ
each_character none = []
each_character (more t ts) = string_character (character_code t) ++ each_character ts

-- a list of characters
abbrev pub fun_string_text : Trees → List ℕ
fun_string_text ts = with_ends (codes "\"") (each_character ts) (codes "\"")

-- ---- heads

-- an atom of a head
abbrev pub pattern_atom_text : Name → AtomKind → List ℕ
pattern_atom_text s (a_variable k) = variable_text k
pattern_atom_text s kind = if is_wildcard s then codes "_" else atom_text s

abbrev mutual
  -- the text of a pattern
  pub pattern_text : Tree → List ℕ
  pattern_text (int z) = signed_decimal z
  pattern_text (atom s) = pattern_atom_text s (atom_kind s)
  pattern_text (pid n) = []
  pattern_text (tuple ts) = with_ends (codes "{") (patterns_text [] ts) (codes "}")
  pattern_text (list ts) = if is_text ts then fun_string_text ts else with_ends (codes "[") (patterns_text [] ts) (codes "]")

  -- of several, each after these bytes, and after the first with a comma and a blank before each
  pub patterns_text : List ℕ → Trees → List ℕ
  patterns_text s none = []
  patterns_text s (more t ts) = s ++ pattern_text t ++ patterns_text (codes ", ") ts

-- a whole head
abbrev pub head_text : Tree → List ℕ
head_text (list ts) = with_ends (codes "[") (patterns_text [] ts) (codes "]")
head_text t = pattern_text t

-- ---- expressions

-- an atom of an expression that is no variable
abbrev pub plain_atom_text : Name → List ℕ
plain_atom_text s =
    if is_wildcard s then codes "_"
    else (if bytes_eq s (codes "$_") then codes "object()"
    else (if bytes_eq s (codes "$*") then codes "bindings()"
    else atom_text s))

-- an atom of an expression
abbrev pub expr_atom_text : Name → AtomKind → List ℕ
expr_atom_text s (a_variable k) = variable_text k
expr_atom_text s kind = plain_atom_text s

-- {const,A}
abbrev pub const_text : Trees → List ℕ
const_text (more (atom s) none) = atom_text s
const_text ts = []

-- a list, of its elements' text; with a string as its tail where it keeps an operator from being computed
abbrev pub list_text : Bool → Trees → List ℕ → List ℕ
list_text true none u = codes "\"\""
list_text k ts u = codes "[" ++ u ++ only_if k (codes "|\"\"") ++ codes "]"

-- an operator between the texts of its operands, in parentheses where it binds less
abbrev pub between_text : ℕ → FunOperator → List ℕ → List ℕ → List ℕ
between_text n o u v =
    only_if (nat_lt (level_of (operator_binding o)) n) (codes "(") ++ (u ++ codes " " ++ operator_name o ++ codes " " ++ v) ++ only_if (nat_lt (level_of (operator_binding o)) n) (codes ")")

-- an operator before the text of its operand
abbrev pub before_text : FunOperator → List ℕ → List ℕ
before_text o u = operator_name o ++ codes " " ++ u

-- a call with the text of its arguments
abbrev pub called_text : Name → List ℕ → List ℕ
called_text s u = atom_text s ++ with_ends (codes "(") u (codes ")")

-- an operator or a call, of the texts of its operands at each level and of all arguments
abbrev pub fun_call_text : PrintedCall → ℕ → Name → (ℕ → List ℕ) → (ℕ → List ℕ) → List ℕ → List ℕ
fun_call_text (prints_between o) n s first second each = between_text n o (first (left_level (operator_binding o))) (second (right_level (operator_binding o)))
fun_call_text (prints_before o) n s first second each = before_text o (first PREFIX_LEVEL)
fun_call_text prints_call n s first second each = called_text s each
fun_call_text prints_nothing n s first second each = []

module _ (d : Dialect) (part : Position) where
  -- a call of the name with these arguments is an operator that would be computed
  abbrev pub computes_with : Name → Trees → Bool
  computes_with s ts = would_compute (computation_of (printed_call d part s (count ts)) (values_in_fun d part ts))

  abbrev mutual
    -- the text of an expression that binds so strongly at least; whether the first list in it keeps an operator from being computed
    pub fun_expr_text : ℕ → Bool → Tree → List ℕ
    fun_expr_text n k (int z) = signed_decimal z
    fun_expr_text n k (atom s) = expr_atom_text s (atom_kind s)
    fun_expr_text n k (pid p) = []
    fun_expr_text n k (list ts) = if is_text ts then fun_string_text ts else list_text k ts (items_text [] false ts)
    fun_expr_text n k (tuple (more (tuple ts) none)) = with_ends (codes "{") (items_text [] k ts) (codes "}")
    fun_expr_text n k (tuple (more (atom s) ts)) =
        if bytes_eq s (codes "const") then const_text ts
        else fun_call_text (printed_call d part s (count ts)) n s (λ m. first_text m (computes_with s ts) ts) (λ m. second_text m (computes_with s ts) ts) (items_text [] false ts)
    fun_expr_text n k (tuple ts) = []

    -- of the first of several
    pub first_text : ℕ → Bool → Trees → List ℕ
    first_text n k none = []
    first_text n k (more t ts) = fun_expr_text n (k && has_list t) t

    -- of the second, where the first has no list
    pub second_text : ℕ → Bool → Trees → List ℕ
    second_text n k none = []
    second_text n k (more t ts) = first_text n (k && not (has_list t)) ts

    -- of several, each after these bytes, and after the first with a comma and a blank before each
    pub items_text : List ℕ → Bool → Trees → List ℕ
    items_text s k none = []
    items_text s k (more t ts) = s ++ fun_expr_text 0 (k && has_list t) t ++ items_text (codes ", ") (k && not (has_list t)) ts

-- ---- clauses

-- the conditions
abbrev pub conditions_text : Dialect → Trees → List ℕ
conditions_text d none = []
conditions_text d ts = codes " when " ++ items_text d in_condition [] false ts

-- (HEAD) when G, .. -> E, ..
abbrev pub parts_text : Dialect → Tree → Trees → Trees → List ℕ
parts_text d h cs bs = codes "(" ++ head_text h ++ codes ")" ++ conditions_text d cs ++ codes " -> " ++ items_text d in_body [] false bs

-- a clause
abbrev pub fun_clause_text : Dialect → Tree → List ℕ
fun_clause_text d (tuple (more h (more (list cs) (more (list bs) none)))) = parts_text d h cs bs
fun_clause_text d t = []

-- clauses, each after these bytes, and after the first with the break before each
abbrev pub clauses_text : Dialect → List ℕ → Trees → List ℕ
clauses_text d s none = []
clauses_text d s (more t ts) = s ++ fun_clause_text d t ++ clauses_text d CLAUSE_BREAK ts

-- the fun
abbrev pub whole_text : Dialect → Tree → List ℕ
whole_text d (list ts) = codes "fun" ++ clauses_text d [] ts ++ codes " end"
whole_text d t = []
