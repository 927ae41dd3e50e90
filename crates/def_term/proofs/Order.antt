-- The order of trees is total: up to each depth it is made of orders that are.
use Rattle.std.proofs.Common.{◌≡◌, ℕ, ℤ, pos, zero, suc, ◌≤◌, max, List, [], refl, ap, ap₂, sym, ◌∙◌, arith}
use Rattle.std.specs.declared.cmp.Ordering.{Ordering}
use Rattle.std.specs.declared.cmp.Ordering.TheVariants.{Less, Equal, Greater}
use Rattle.std.specs.Ordering.{nat_cmp, int_cmp, ordering_then, ordering_reverse, on, then_cmp}
use Rattle.std.specs.Cmp.{IsTotalOrder}
use Rattle.std.specs.Cmp.Lexicographic.{slice_cmp}
use Rattle.std.proofs.lemmas.Cmp.{nat_cmp_total, int_cmp_total, nat_list_cmp_total, lists_total, on_total, then_total}
use Rattle.std.proofs.lemmas.Map.Lookups.{exact_signed, exact_unsigned, exact_bytes}
use Rattle.def_term.specs.Tree.{Tree, int, atom, pid, tuple, list, Trees, none, more, elements, count, depth, greatest_depth}
use Rattle.def_term.specs.Order.{rank, tree_cmp, trees_cmp}

abbrev number : Tree → ℤ
number (int n) = n
number (atom s) = pos 0
number (pid n) = pos 0
number (tuple ts) = pos 0
number (list ts) = pos 0

abbrev chars : Tree → List ℕ
chars (int n) = []
chars (atom s) = s
chars (pid n) = []
chars (tuple ts) = []
chars (list ts) = []

abbrev pid_number : Tree → ℕ
pid_number (int n) = 0
pid_number (atom s) = 0
pid_number (pid n) = n
pid_number (tuple ts) = 0
pid_number (list ts) = 0

abbrev tuple_size : Tree → ℕ
tuple_size (int n) = 0
tuple_size (atom s) = 0
tuple_size (pid n) = 0
tuple_size (tuple ts) = count ts
tuple_size (list ts) = 0

abbrev parts : Tree → List Tree
parts (int n) = []
parts (atom s) = []
parts (pid n) = []
parts (tuple ts) = elements ts
parts (list ts) = elements ts

-- the order of trees of less than that depth
abbrev level : ℕ → Tree → Tree → Ordering
level zero = λ t u. Equal
level (suc n) = then_cmp (on rank nat_cmp) (then_cmp (on number int_cmp) (then_cmp (on chars (slice_cmp nat_cmp)) (then_cmp (on pid_number nat_cmp) (then_cmp (on tuple_size nat_cmp) (on parts (slice_cmp (level n)))))))

level_total : (n : ℕ) → IsTotalOrder (level n)
level_total zero = record { antisymm = λ t u. refl; trans = λ t u v p q. cc; congr = λ t u v p. refl }
level_total (suc n) =
    then_total (on_total rank nat_cmp_total) (then_total (on_total number int_cmp_total) (then_total (on_total chars nat_list_cmp_total)
    (then_total (on_total pid_number nat_cmp_total) (then_total (on_total tuple_size nat_cmp_total) (on_total parts (lists_total (level_total n)))))))

then_Equal : (r : Ordering) → r ≡ ordering_then r Equal
then_Equal Less = refl
then_Equal Equal = refl
then_Equal Greater = refl

mutual
  agree : (n : ℕ) (t u : Tree) → depth t ≤ n → depth u ≤ n → tree_cmp t u ≡ level (suc n) t u
  agree n (int a) (int b) p q = then_Equal (int_cmp a b)
  agree n (atom r) (atom s) p q = then_Equal (slice_cmp nat_cmp r s)
  agree n (pid a) (pid b) p q = then_Equal (nat_cmp a b)
  agree zero (tuple ts) (tuple us) p q = absurd (omega arith)
  agree (suc n) (tuple ts) (tuple us) p q = ap (ordering_then (nat_cmp (count ts) (count us))) (agree_all n ts us (omega arith) (omega arith))
  agree zero (list ts) (list us) p q = absurd (omega arith)
  agree (suc n) (list ts) (list us) p q = agree_all n ts us (omega arith) (omega arith)
  agree n t u p q = refl

  agree_all : (n : ℕ) (ts us : Trees) → greatest_depth ts ≤ n → greatest_depth us ≤ n → trees_cmp ts us ≡ slice_cmp (level (suc n)) (elements ts) (elements us)
  agree_all n none none p q = refl
  agree_all n none (more u us) p q = refl
  agree_all n (more t ts) none p q = refl
  agree_all n (more t ts) (more u us) p q = ap₂ ordering_then (agree n t u (omega arith) (omega arith)) (agree_all n ts us (omega arith) (omega arith))

pub tree_total : IsTotalOrder tree_cmp
tree_total = record {
  antisymm = λ t u.
      let n = max (depth t) (depth u) in
      agree n t u (omega arith) (omega arith) ∙ (level_total (suc n)).antisymm t u ∙ ap ordering_reverse (sym (agree n u t (omega arith) (omega arith)));
  trans = λ t u v p q.
      let n = max (max (depth t) (depth u)) (depth v) in
      agree n t v (omega arith) (omega arith) ∙ (level_total (suc n)).trans t u v (sym (agree n t u (omega arith) (omega arith)) ∙ p) (sym (agree n u v (omega arith) (omega arith)) ∙ q);
  congr = λ t u v p.
      let n = max (max (depth t) (depth u)) (depth v) in
      agree n t v (omega arith) (omega arith) ∙ (level_total (suc n)).congr t u v (sym (agree n t u (omega arith) (omega arith)) ∙ p) ∙ sym (agree n u v (omega arith) (omega arith));
}

both_equal : (r s : Ordering) → ordering_then r s ≡ Equal → (r ≡ Equal) × (s ≡ Equal)
both_equal Less s h = cc
both_equal Equal s h = (refl, h)
both_equal Greater s h = cc

mutual
  pub tree_exact : (t u : Tree) → tree_cmp t u ≡ Equal → t ≡ u
  tree_exact (int a) (int b) h = ap int (exact_signed a b h)
  tree_exact (atom r) (atom s) h = ap atom (exact_bytes r s h)
  tree_exact (pid a) (pid b) h = ap pid (exact_unsigned a b h)
  tree_exact (tuple ts) (tuple us) h = ap tuple (trees_exact ts us (both_equal _ _ h).1)
  tree_exact (list ts) (list us) h = ap list (trees_exact ts us h)
  tree_exact t u h = cc

  trees_exact : (ts us : Trees) → trees_cmp ts us ≡ Equal → ts ≡ us
  trees_exact none none h = refl
  trees_exact none (more u us) h = cc
  trees_exact (more t ts) none h = cc
  trees_exact (more t ts) (more u us) h = let b = both_equal (tree_cmp t u) (trees_cmp ts us) h in ap₂ more (tree_exact t u b.0) (trees_exact ts us b.1)
