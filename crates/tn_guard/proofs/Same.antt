-- Equality of terms as a test, by what it decides.
use Rattle.std.proofs.Common.{◌≡◌, ◌↔◌, Bool, true, false, IsTrue, refl, sym, ap, subst}
use Rattle.def_term.specs.Tree.{Tree, tuple, list, Trees}
use Rattle.def_term.specs.Order.{same}
use Rattle.def_term.proofs.Same.{same-is, same-self}

pub decided : (b : Bool) (t u : Tree) → IsTrue b ↔ (t ≡ u) → b ≡ same t u
decided true t u h = sym (subst (λ x. same t x ≡ true) (h.0 refl) (same-self t))
decided false t u h = go (same t u) refl
  where
    go : (s : Bool) → same t u ≡ s → false ≡ s
    go true e = h.1 (same-is t u e)
    go false e = refl

-- in either order
pub same-swap : (t u : Tree) → same t u ≡ same u t
same-swap t u = decided (same t u) u t ((λ yes. sym (same-is t u yes)), (λ e. subst (λ x. same t x ≡ true) (sym e) (same-self t)))

-- of lists, by what it decides of their elements
pub decided-lists : (b : Bool) (ts us : Trees) → IsTrue b ↔ (ts ≡ us) → b ≡ same (list ts) (list us)
decided-lists b ts us h = decided b (list ts) (list us) ((λ x. ap list (h.0 x)), (λ e. let is : ts ≡ us = cc in h.1 is))

-- of tuples, as of lists
pub same-tuples : (ts us : Trees) → same (list ts) (list us) ≡ same (tuple ts) (tuple us)
same-tuples ts us =
    decided (same (list ts) (list us)) (tuple ts) (tuple us) (
      (λ yes. let is : list ts ≡ list us = same-is (list ts) (list us) yes in cc),
      (λ e. let is : ts ≡ us = cc in subst (λ vs. same (list ts) (list vs) ≡ true) is (same-self (list ts))),
    )
