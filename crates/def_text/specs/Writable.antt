-- Which terms have a written text that spells them.
-- Depends on trees and the limits on numbers (own).
use Rattle.std.specs.Prelude.{Bool, true, ◌&&◌, nat_lt}
use Rattle.def_term.specs.Tree.{Tree, int, atom, pid, tuple, list, Trees, none, more}
use Rattle.def_text.specs.Tokens.{all_are, is_printable}
use Rattle.def_text.specs.Limits.{in_range}

abbrev mutual
  -- integers and pids in range, and atoms of characters 32 to 126
  pub is_writable : Tree → Bool
  is_writable (int n) = in_range n
  is_writable (atom s) = all_are is_printable s
  is_writable (pid n) = nat_lt n 4294967296
  is_writable (tuple us) = are_writable us
  is_writable (list us) = are_writable us

  -- each element is so
  pub are_writable : Trees → Bool
  are_writable none = true
  are_writable (more u us) = is_writable u && are_writable us
