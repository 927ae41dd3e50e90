-- Parts of the table of functions.
use Rattle.std.specs.Prelude.{ℤ, ◌+ℤ◌, ◌-ℤ◌, ◌*ℤ◌, List, Option, None}
use Rattle.std.specs.Int.{w64, int_bit_and, int_bit_or, int_bit_xor}
use Rattle.def_term.specs.Tree.{Tree}
use Rattle.def_spec.specs.Functions.{Func, own_pid, own_node, all_of, one_of, add, subtract, multiply, divide, remainder, bit_and, bit_or, bit_xor, in_64_bits, quotient, rest_of, apply}

-- the functions of one argument or of two: `self`, `node`, `and` and `or` stand apart
abbrev pub of_one_or_two : Func → List Tree → Option Tree
of_one_or_two own_pid ts = None
of_one_or_two own_node ts = None
of_one_or_two all_of ts = None
of_one_or_two one_of ts = None
of_one_or_two f ts = apply f ts 0

-- the functions of two integers
abbrev pub of_two_integers : Func → ℤ → ℤ → Option Tree
of_two_integers add a b = in_64_bits (a +ℤ b)
of_two_integers subtract a b = in_64_bits (a -ℤ b)
of_two_integers multiply a b = in_64_bits (a *ℤ b)
of_two_integers divide a b = quotient a b
of_two_integers remainder a b = rest_of a b
of_two_integers bit_and a b = in_64_bits (int_bit_and w64 a b)
of_two_integers bit_or a b = in_64_bits (int_bit_or w64 a b)
of_two_integers bit_xor a b = in_64_bits (int_bit_xor w64 a b)
of_two_integers f a b = None
