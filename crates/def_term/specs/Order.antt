-- The order of terms, by cases on pairs of trees.
-- Depends on terms. It is that of the Erlang Reference Manual ("Term Comparisons"), of the five kinds of this profile.
use Rattle.std.specs.Prelude.{ℕ, Bool}
use Rattle.std.specs.declared.cmp.Ordering.{Ordering}
use Rattle.std.specs.declared.cmp.Ordering.TheVariants.{Less, Equal, Greater}
use Rattle.std.specs.Ordering.{nat_cmp, int_cmp, ordering_then, is_eq}
use Rattle.std.specs.Cmp.Lexicographic.{slice_cmp}
use Rattle.def_term.specs.Tree.{Tree, int, atom, pid, tuple, list, Trees, none, more, count}

-- integer < atom < pid < tuple < list
abbrev pub rank : Tree → ℕ
rank (int n) = 0
rank (atom s) = 1
rank (pid n) = 2
rank (tuple ts) = 3
rank (list ts) = 4

abbrev mutual
  -- numbers by value, atoms by their characters, pids by number, tuples by size and then element by element, lists element by element; terms of two kinds by their kinds
  pub tree_cmp : Tree → Tree → Ordering
  tree_cmp (int m) (int n) = int_cmp m n
  tree_cmp (atom r) (atom s) = slice_cmp nat_cmp r s
  tree_cmp (pid m) (pid n) = nat_cmp m n
  tree_cmp (tuple ts) (tuple us) = ordering_then (nat_cmp (count ts) (count us)) (trees_cmp ts us)
  tree_cmp (list ts) (list us) = trees_cmp ts us
  tree_cmp t u = nat_cmp (rank t) (rank u)

  -- element by element; where one ends first, it comes first
  pub trees_cmp : Trees → Trees → Ordering
  trees_cmp none none = Equal
  trees_cmp none (more u us) = Less
  trees_cmp (more t ts) none = Greater
  trees_cmp (more t ts) (more u us) = ordering_then (tree_cmp t u) (trees_cmp ts us)

-- equality of terms
abbrev pub same : Tree → Tree → Bool
same t u = is_eq (tree_cmp t u)
