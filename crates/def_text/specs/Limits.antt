-- The limits on terms (own): how deep they nest, and how large their numbers, atoms, tuples and lists are.
-- Depends on trees.
use Rattle.std.specs.Prelude.{◌≡◌, ℕ, ℤ, pos, negsuc, ◌≤◌, length, Bool, true, false, ◌&&◌, nat_le, nat_lt}
use Rattle.def_term.specs.Tree.{Tree, int, atom, pid, tuple, list, Trees, none, more, count, depth}
use Rattle.def_term.specs.Atoms.{ATOM_LENGTH}

-- tuples and lists nest at most 32 deep
abbrev pub DEPTH : ℕ
DEPTH = 32

-- the most elements of a tuple
abbrev pub TUPLE_LENGTH : ℕ
TUPLE_LENGTH = 255

-- the most elements of a list
abbrev pub LIST_LENGTH : ℕ
LIST_LENGTH = 4096

-- an integer is a signed number of 64 bits
abbrev pub in_range : ℤ → Bool
in_range (pos n) = nat_lt n 9223372036854775808
in_range (negsuc n) = nat_lt n 9223372036854775808

abbrev mutual
  -- an atom has at most 255 characters, a pid's number 32 bits, a tuple at most 255 elements and a list 4,096
  pub sizes_fit : Tree → Bool
  sizes_fit (int n) = in_range n
  sizes_fit (atom s) = nat_le (length s) ATOM_LENGTH
  sizes_fit (pid n) = nat_lt n 4294967296
  sizes_fit (tuple us) = nat_le (count us) TUPLE_LENGTH && all_sizes_fit us
  sizes_fit (list us) = nat_le (count us) LIST_LENGTH && all_sizes_fit us

  -- each element's numbers, atoms, tuples and lists fit
  pub all_sizes_fit : Trees → Bool
  all_sizes_fit none = true
  all_sizes_fit (more u us) = sizes_fit u && all_sizes_fit us

-- with the limits on sizes, or without them
abbrev pub sizes_ok : Bool → Tree → Bool
sizes_ok false t = true
sizes_ok true t = sizes_fit t

-- within the limit on depth, and within those on sizes where they count
pub record Fits (limit : ℕ) (sized : Bool) (t : Tree) : Type 0 where
  pub nests : depth t ≤ limit
  pub sizes : sizes_ok sized t ≡ true
