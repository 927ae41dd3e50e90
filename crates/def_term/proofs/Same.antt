-- Equality of terms as a test.
use Rattle.std.proofs.Common.{◌≡◌, refl, ap, true, Ordering, Less, Equal, Greater}
use Rattle.std.specs.Ordering.{ordering_reverse, is_eq}
use Rattle.std.specs.Cmp.{IsTotalOrder, Equal-is}
use Rattle.def_term.specs.Tree.{Tree}
use Rattle.def_term.specs.Order.{tree_cmp, same}
use Rattle.def_term.proofs.Order.{tree_total, tree_exact}

self_reverse : (r : Ordering) → r ≡ ordering_reverse r → r ≡ Equal
self_reverse Less e = cc
self_reverse Equal e = refl
self_reverse Greater e = cc

-- in a total order everything ties with itself
pub tied_self : {K : Type 0} {R : K → K → Ordering} → IsTotalOrder R → (x : K) → R x x ≡ Equal
tied_self o x = self_reverse _ (o.antisymm x x)

pub same-is : (t u : Tree) → same t u ≡ true → t ≡ u
same-is t u e = tree_exact t u ((Equal-is (tree_cmp t u)).0 e)

pub same-self : (t : Tree) → same t t ≡ true
same-self t = ap is_eq (tied_self tree_total t)
