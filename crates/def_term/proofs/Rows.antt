-- Small terms: their order, depth and size, and their written text.
use Rattle.std.specs.Prelude.{◌≡◌, pos, negsuc, List, [], ◌∷◌, codes, refl}
use Rattle.std.specs.declared.cmp.Ordering.TheVariants.{Less}
use Rattle.std.specs.Fmt.{digits}
use Rattle.def_term.specs.Tree.{Tree, int, atom, pid, tuple, list, of_elements, depth, size}
use Rattle.def_term.specs.Names.{word}
use Rattle.def_term.specs.Order.{tree_cmp}
use Rattle.def_term.specs.Text.{is_written_bare, w}

abbrev braces : List Tree → Tree
braces ts = tuple (of_elements ts)

abbrev brackets : List Tree → Tree
brackets ts = list (of_elements ts)

-- ---- order: integer < atom < pid < tuple < [] < nonempty list

integer_before_atom : tree_cmp (int (pos 9)) (word "a") ≡ Less
integer_before_atom = refl

atom_before_pid : tree_cmp (word "z") (pid 0) ≡ Less
atom_before_pid = refl

pid_before_tuple : tree_cmp (pid 9) (braces []) ≡ Less
pid_before_tuple = refl

tuple_before_list : tree_cmp (braces (word "a" ∷ word "b" ∷ [])) (brackets []) ≡ Less
tuple_before_list = refl

empty_before_nonempty : tree_cmp (brackets []) (brackets (int (pos 0) ∷ [])) ≡ Less
empty_before_nonempty = refl

negative_before : tree_cmp (int (negsuc 1)) (int (negsuc 0)) ≡ Less
negative_before = refl

-- a beginning first
beginning_of_atom : tree_cmp (word "ab") (word "abc") ≡ Less
beginning_of_atom = refl

beginning_of_list : tree_cmp (brackets (word "z" ∷ [])) (brackets (word "z" ∷ word "a" ∷ [])) ≡ Less
beginning_of_list = refl

-- tuples by size, and only then element by element
tuples_by_size : tree_cmp (braces (word "z" ∷ [])) (braces (word "a" ∷ word "a" ∷ [])) ≡ Less
tuples_by_size = refl

-- lists element by element, whatever their lengths
lists_by_elements : tree_cmp (brackets (word "a" ∷ word "z" ∷ [])) (brackets (word "b" ∷ [])) ≡ Less
lists_by_elements = refl

-- ---- depth and size

depth_of_empty : depth (brackets []) ≡ 1
depth_of_empty = refl

depth_of_atom : depth (word "a") ≡ 0
depth_of_atom = refl

depth_of_both : depth (braces (word "a" ∷ brackets (braces [] ∷ []) ∷ [])) ≡ 3
depth_of_both = refl

size_of_both : size (braces (word "a" ∷ brackets (braces [] ∷ []) ∷ [])) ≡ 4
size_of_both = refl

-- ---- written text

-- "hi"
a_string : w (brackets (int (pos 104) ∷ int (pos 105) ∷ [])) ≡ codes "[104,105]"
unfolding digits
a_string = refl

a_reserved_word : w (word "receive") ≡ codes "'receive'"
unfolding is_written_bare
a_reserved_word = refl

a_blank_in_it : w (word "a b") ≡ codes "'a b'"
unfolding is_written_bare
a_blank_in_it = refl

-- `it's`, with a backslash before the quote
a_quote_in_it : w (word "it's") ≡ 39 ∷ 105 ∷ 116 ∷ 92 ∷ 39 ∷ 115 ∷ 39 ∷ []
unfolding is_written_bare
a_quote_in_it = refl

-- a backslash, with another before it
a_backslash : w (atom (92 ∷ [])) ≡ 39 ∷ 92 ∷ 92 ∷ 39 ∷ []
unfolding is_written_bare
a_backslash = refl

maybe_is_quoted : w (word "maybe") ≡ codes "'maybe'"
unfolding is_written_bare
maybe_is_quoted = refl

else_is_quoted : w (word "else") ≡ codes "'else'"
unfolding is_written_bare
else_is_quoted = refl

empty_is_quoted : w (atom []) ≡ codes "''"
unfolding is_written_bare
empty_is_quoted = refl

the_least_integer : w (int (negsuc 9223372036854775807)) ≡ codes "-9223372036854775808"
unfolding digits
the_least_integer = refl

a_pid : w (braces (pid 101 ∷ brackets [] ∷ [])) ≡ codes "{<0.101.0>,[]}"
unfolding digits
a_pid = refl
