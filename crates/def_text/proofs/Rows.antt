-- Rows: small lists of tokens, and how they are read or refused as a term and as a script.
use Rattle.std.proofs.Common.{◌≡◌, ℕ, zero, suc, pos, List, [], ◌∷◌, ◌++◌, replicate, true, false, negsuc, Ok, Err, codes, refl}
use Rattle.def_term.specs.Tree.{int, atom as name, pid as process, tuple, list, none, more}
use Rattle.def_text.specs.Tokens.{Token, open_brace, close_brace, open_bracket, comma, stop, integer, atom, characters, pid, bad}
use Rattle.def_text.specs.Grammar.{of_codes}
use Rattle.def_text.specs.Faults.{misplaced, too_deep, too_large}
use Rattle.def_text.specs.Limits.{DEPTH, sizes_fit}
use Rattle.def_text.specs.Reading.{read, bracket, frame, next, inside, comma_at}
use Rattle.def_text.specs.ScriptReading.{read_script}

-- `{a,"b"}`: a string is the list of its codes
pub pair_of_string : read 32 true (open_brace ∷ atom (codes "a") ∷ comma ∷ characters (codes "b") ∷ close_brace ∷ []) ≡ Ok (tuple (more (name (codes "a")) (more (list (more (int (pos 98)) none)) none)))
pair_of_string = refl

-- `{control,[`: only a beginning
pub control_open : read 32 true (open_brace ∷ atom (codes "control") ∷ comma ∷ open_bracket ∷ []) ≡ Err (misplaced, [])
control_open = refl

-- `{a b}.`
pub no_comma : read 32 true (open_brace ∷ atom (codes "a") ∷ atom (codes "b") ∷ close_brace ∷ stop ∷ []) ≡ Err (misplaced, atom (codes "b") ∷ close_brace ∷ stop ∷ [])
no_comma = refl

-- `a.`: a text for one term has no full stop
pub term_with_stop : read 32 true (atom (codes "a") ∷ stop ∷ []) ≡ Err (misplaced, stop ∷ [])
term_with_stop = refl

pub level_32 : read DEPTH true (replicate 32 open_bracket) ≡ Err (misplaced, [])
level_32 = refl

pub level_33 : read DEPTH true (replicate 33 open_bracket) ≡ Err (too_deep, open_bracket ∷ [])
level_33 = refl

-- a string is a level
pub string_at_level_33 : read DEPTH true (replicate 32 open_bracket ++ characters [] ∷ []) ≡ Err (too_deep, characters [] ∷ [])
string_at_level_33 = refl

abbrev pub zeros : ℕ → List Token
zeros zero = []
zeros (suc n) = integer (pos 0) ∷ comma ∷ zeros n

-- the comma after element 255 of a tuple
pub wide_tuple : read DEPTH true (open_brace ∷ zeros 255) ≡ Err (too_large, comma ∷ [])
wide_tuple = refl

pub widest_tuple : read DEPTH true (open_brace ∷ zeros 254) ≡ Err (misplaced, [])
widest_tuple = refl

-- 9223372036854775808
pub large_integer : read DEPTH true (integer (pos 9223372036854775808) ∷ []) ≡ Err (too_large, integer (pos 9223372036854775808) ∷ [])
large_integer = refl

pub largest_integer : read DEPTH true (integer (pos 9223372036854775807) ∷ []) ≡ Ok (int (pos 9223372036854775807))
largest_integer = refl

-- -9223372036854775808
pub least_integer : read DEPTH true (integer (negsuc 9223372036854775807) ∷ []) ≡ Ok (int (negsuc 9223372036854775807))
least_integer = refl

-- -9223372036854775809
pub below_the_least : read DEPTH true (integer (negsuc 9223372036854775808) ∷ []) ≡ Err (too_large, integer (negsuc 9223372036854775808) ∷ [])
below_the_least = refl

pub longest_atom : read DEPTH true (atom (replicate 255 97) ∷ []) ≡ Ok (name (replicate 255 97))
longest_atom = refl

pub long_atom : read DEPTH true (atom (replicate 256 97) ∷ []) ≡ Err (too_large, atom (replicate 256 97) ∷ [])
long_atom = refl

pub largest_pid : read DEPTH true (pid 4294967295 ∷ []) ≡ Ok (process 4294967295)
largest_pid = refl

pub large_pid : read DEPTH true (pid 4294967296 ∷ []) ≡ Err (too_large, pid 4294967296 ∷ [])
large_pid = refl

-- a string of 4,096 letters, and of 4,097
pub longest_string : sizes_fit (list (of_codes (replicate 4096 97))) ≡ true
longest_string = refl

pub long_string : sizes_fit (list (of_codes (replicate 4097 97))) ≡ false
long_string = refl

-- the comma after element 4,095 of a list, and after element 4,096
pub widest_list : comma_at true (frame bracket (replicate 4095 (int (pos 0))) ∷ []) ≡ Ok (inside next (frame bracket (replicate 4095 (int (pos 0))) ∷ []))
widest_list = refl

pub wide_list : comma_at true (frame bracket (replicate 4096 (int (pos 0))) ∷ []) ≡ Err too_large
wide_list = refl

-- a script of no terms
pub empty_script : read_script 32 true [] ≡ Ok []
empty_script = refl

-- `a. 1.`
pub two_terms : read_script 32 true (atom (codes "a") ∷ stop ∷ integer (pos 1) ∷ stop ∷ []) ≡ Ok (name (codes "a") ∷ int (pos 1) ∷ [])
two_terms = refl

-- `a. 1`: the last full stop is missing
pub no_stop : read_script 32 true (atom (codes "a") ∷ stop ∷ integer (pos 1) ∷ []) ≡ Err (misplaced, [])
no_stop = refl

-- `a. [`: the text ends within a term
pub open_at_end : read_script 32 true (atom (codes "a") ∷ stop ∷ open_bracket ∷ []) ≡ Err (misplaced, [])
open_at_end = refl

-- `. a.`
pub stop_in_front : read_script 32 true (stop ∷ atom (codes "a") ∷ stop ∷ []) ≡ Err (misplaced, stop ∷ atom (codes "a") ∷ stop ∷ [])
stop_in_front = refl

-- `a. .`
pub stop_twice : read_script 32 true (atom (codes "a") ∷ stop ∷ stop ∷ []) ≡ Err (misplaced, stop ∷ [])
stop_twice = refl

-- `[a.`
pub stop_within : read_script 32 true (open_bracket ∷ atom (codes "a") ∷ stop ∷ []) ≡ Err (misplaced, stop ∷ [])
stop_within = refl

-- `a b.`
pub no_stop_between : read_script 32 true (atom (codes "a") ∷ atom (codes "b") ∷ stop ∷ []) ≡ Err (misplaced, atom (codes "b") ∷ stop ∷ [])
no_stop_between = refl

-- bytes that form no token, after a whole term
pub bad_after : read_script 32 true (atom (codes "a") ∷ stop ∷ bad ∷ []) ≡ Err (misplaced, bad ∷ [])
bad_after = refl

-- the second term is too deep
pub second_too_deep : read_script 32 true (atom (codes "a") ∷ stop ∷ replicate 33 open_bracket) ≡ Err (too_deep, open_bracket ∷ [])
second_too_deep = refl

-- the second term has too large a number
pub second_too_large : read_script 32 true (atom (codes "a") ∷ stop ∷ integer (pos 9223372036854775808) ∷ stop ∷ []) ≡ Err (too_large, integer (pos 9223372036854775808) ∷ stop ∷ [])
second_too_large = refl
