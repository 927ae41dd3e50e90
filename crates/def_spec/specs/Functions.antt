-- The functions of conditions and bodies ("Match Specifications in Erlang", "Function Descriptions", "Functions Allowed in All Types of Match Specifications"), and the value of one on values.
-- Depends on terms and their order. None is a fault.
use Rattle.std.specs.Prelude.{ℕ, zero, suc, ◌-◌, ◌^◌, Bool, true, false, not, ◌&&◌, ◌||◌, if◌then◌else◌, List, [], ◌∷◌, Option, Some, None, ℤ, pos, negsuc, ◌+ℤ◌, ◌-ℤ◌, ◌*ℤ◌, neg_ℤ, int_le, int_div, int_rem}
use Rattle.std.specs.Int.{w64, int_bit_and, int_bit_or, int_bit_xor}
use Rattle.std.specs.Ordering.{is_gt, is_ge, is_lt, is_le}
use Rattle.def_term.specs.Tree.{Tree, int, atom, pid, tuple, list, Trees, none, more, count}
use Rattle.def_term.specs.Order.{tree_cmp, same}
use Rattle.def_term.specs.Names.{word}

-- tests of kinds, functions of lists and tuples, arithmetic, comparisons, the own pid and node, and logic
pub data Func : Type 0 where
  -- that is_boolean is allowed is (own)
  is_atom is_integer is_list is_tuple is_pid is_number is_boolean : Func
  -- there are no such terms here; that is_bitstring is allowed is (own)
  is_float is_port is_reference is_map is_binary is_bitstring is_function : Func
  head tail length size tuple_size element : Func
  absolute add subtract multiply divide remainder : Func
  bit_and bit_or bit_xor bit_not : Func
  greater greater_or_equal less less_or_equal equal exactly_equal not_equal exactly_not_equal : Func
  own_pid own_node : Func
  -- all arguments of these are evaluated
  all_of one_of just_one_of is_false : Func

-- `true` or `false` as a term
abbrev pub truth : Bool → Tree
truth true = word "true"
truth false = word "false"

-- the term is the atom `true`
abbrev pub is_true : Tree → Bool
is_true t = same t (word "true")

-- a function of one argument; with another number it is a fault
abbrev pub on_one : (Tree → Option Tree) → List Tree → Option Tree
on_one f [] = None
on_one f (t ∷ []) = f t
on_one f (t ∷ u ∷ us) = None

-- a function of two arguments; with another number it is a fault
abbrev pub on_two : (Tree → Tree → Option Tree) → List Tree → Option Tree
on_two f [] = None
on_two f (t ∷ []) = None
on_two f (t ∷ u ∷ []) = f t u
on_two f (t ∷ u ∷ v ∷ vs) = None

-- a test of one term
abbrev pub tests : (Tree → Bool) → List Tree → Option Tree
tests p ts = on_one (λ t. Some (truth (p t))) ts

-- a test of two terms
abbrev pub compares : (Tree → Tree → Bool) → List Tree → Option Tree
compares p ts = on_two (λ t u. Some (truth (p t u))) ts

-- ---- the kinds of terms

-- is_atom
abbrev pub atom_test : Tree → Bool
atom_test (atom a) = true
atom_test _ = false

-- is_integer, and is_number in this profile
abbrev pub integer_test : Tree → Bool
integer_test (int z) = true
integer_test _ = false

-- is_list; `[]` is a list
abbrev pub list_test : Tree → Bool
list_test (list ts) = true
list_test _ = false

-- is_tuple
abbrev pub tuple_test : Tree → Bool
tuple_test (tuple ts) = true
tuple_test _ = false

-- is_pid
abbrev pub pid_test : Tree → Bool
pid_test (pid n) = true
pid_test _ = false

-- is_boolean: `true` for the atoms `true` and `false`
abbrev pub boolean_test : Tree → Bool
boolean_test t = same t (word "true") || same t (word "false")

-- ---- integers

-- a whole number, which is a fault outside signed 64 bits (own)
abbrev pub in_64_bits : ℤ → Option Tree
in_64_bits z = if int_le (negsuc (2 ^ 63 - 1)) z && int_le z (pos (2 ^ 63 - 1)) then Some (int z) else None

-- of an integer; of another term a fault
abbrev pub of_integer : (ℤ → ℤ) → Tree → Option Tree
of_integer f (int a) = in_64_bits (f a)
of_integer f _ = None

-- of two integers; of other terms a fault
abbrev pub of_integers : (ℤ → ℤ → Option Tree) → Tree → Tree → Option Tree
of_integers f (int a) (int b) = f a b
of_integers f _ _ = None

-- abs
abbrev pub magnitude : ℤ → ℤ
magnitude (pos n) = pos n
magnitude (negsuc n) = pos (suc n)

-- toward zero; divisor 0 is a fault
abbrev pub quotient : ℤ → ℤ → Option Tree
quotient a (pos zero) = None
quotient a b = in_64_bits (int_div a b)

-- with the dividend's sign; divisor 0 is a fault
abbrev pub rest_of : ℤ → ℤ → Option Tree
rest_of a (pos zero) = None
rest_of a b = in_64_bits (int_rem a b)

-- a function of two integers with an integer as its value
abbrev pub whole : (ℤ → ℤ → ℤ) → List Tree → Option Tree
whole f ts = on_two (of_integers (λ a b. in_64_bits (f a b))) ts

-- ---- lists and tuples

-- hd of a nonempty list; else a fault
abbrev pub first_element : Tree → Option Tree
first_element (list (more t ts)) = Some t
first_element _ = None

-- tl of a nonempty list; else a fault
abbrev pub tail_of : Tree → Option Tree
tail_of (list (more t ts)) = Some (list ts)
tail_of _ = None

-- length of a list; else a fault
abbrev pub length_of : Tree → Option Tree
length_of (list ts) = Some (int (pos (count ts)))
length_of _ = None

-- size of a tuple; else a fault
abbrev pub tuple_size_of : Tree → Option Tree
tuple_size_of (tuple ts) = Some (int (pos (count ts)))
tuple_size_of _ = None

-- the element with this number, from 0
abbrev pub nth : Trees → ℕ → Option Tree
nth none n = None
nth (more t ts) zero = Some t
nth (more t ts) (suc n) = nth ts n

-- the element of a tuple with this number, from 1
abbrev pub element_of : Tree → Tree → Option Tree
element_of (int (pos (suc n))) (tuple ts) = nth ts n
element_of _ _ = None

-- ---- logic; what its functions are where an argument is neither `true` nor `false` is this profile's (own)

-- and: where all are `true`; any other term counts as `false`
abbrev pub all_true : List Tree → Bool
all_true [] = true
all_true (t ∷ ts) = is_true t && all_true ts

-- or: where one is `true`; any other term counts as `false`
abbrev pub some_true : List Tree → Bool
some_true [] = false
some_true (t ∷ ts) = is_true t || some_true ts

-- xor: where one is `true` and the other `false`
abbrev pub differ : Tree → Tree → Bool
differ t u = (same t (word "true") && same u (word "false")) || (same t (word "false") && same u (word "true"))

-- nonode@nohost, also of a pid; any other argument is a fault
abbrev pub node_of : List Tree → Option Tree
node_of [] = Some (word "nonode@nohost")
node_of (pid n ∷ []) = Some (word "nonode@nohost")
node_of (_ ∷ ts) = None

-- the value of one function on values
abbrev pub apply : Func → List Tree → ℕ → Option Tree
apply is_atom ts self_pid = tests atom_test ts
apply is_integer ts self_pid = tests integer_test ts
apply is_list ts self_pid = tests list_test ts
apply is_tuple ts self_pid = tests tuple_test ts
apply is_pid ts self_pid = tests pid_test ts
apply is_number ts self_pid = tests integer_test ts
apply is_boolean ts self_pid = tests boolean_test ts
apply is_float ts self_pid = tests (λ t. false) ts
apply is_port ts self_pid = tests (λ t. false) ts
apply is_reference ts self_pid = tests (λ t. false) ts
apply is_map ts self_pid = tests (λ t. false) ts
apply is_binary ts self_pid = tests (λ t. false) ts
apply is_bitstring ts self_pid = tests (λ t. false) ts
apply is_function ts self_pid = tests (λ t. false) ts
apply head ts self_pid = on_one first_element ts
apply tail ts self_pid = on_one tail_of ts
apply length ts self_pid = on_one length_of ts
apply size ts self_pid = on_one tuple_size_of ts
apply tuple_size ts self_pid = on_one tuple_size_of ts
apply element ts self_pid = on_two element_of ts
apply absolute ts self_pid = on_one (of_integer magnitude) ts
apply add ts self_pid = whole (λ a b. a +ℤ b) ts
apply subtract ts self_pid = whole (λ a b. a -ℤ b) ts
apply multiply ts self_pid = whole (λ a b. a *ℤ b) ts
apply divide ts self_pid = on_two (of_integers quotient) ts
apply remainder ts self_pid = on_two (of_integers rest_of) ts
apply bit_and ts self_pid = whole (int_bit_and w64) ts
apply bit_or ts self_pid = whole (int_bit_or w64) ts
apply bit_xor ts self_pid = whole (int_bit_xor w64) ts
apply bit_not ts self_pid = on_one (of_integer (λ a. neg_ℤ a -ℤ pos 1)) ts
apply greater ts self_pid = compares (λ t u. is_gt (tree_cmp t u)) ts
apply greater_or_equal ts self_pid = compares (λ t u. is_ge (tree_cmp t u)) ts
apply less ts self_pid = compares (λ t u. is_lt (tree_cmp t u)) ts
apply less_or_equal ts self_pid = compares (λ t u. is_le (tree_cmp t u)) ts
apply equal ts self_pid = compares same ts
apply exactly_equal ts self_pid = compares same ts
apply not_equal ts self_pid = compares (λ t u. not (same t u)) ts
apply exactly_not_equal ts self_pid = compares (λ t u. not (same t u)) ts
apply own_pid [] self_pid = Some (pid self_pid)
apply own_pid (t ∷ ts) self_pid = None
apply own_node ts self_pid = node_of ts
apply all_of ts self_pid = Some (truth (all_true ts))
apply one_of ts self_pid = Some (truth (some_true ts))
apply just_one_of ts self_pid = compares differ ts
apply is_false ts self_pid = tests (λ t. same t (word "false")) ts
