-- Equality and order of terms that have no elements.
use Rattle.std.proofs.Common.{◌≡◌, ◌∙◌, ◌↔◌, ℕ, List, Bool, IsTrue, ℤ, nat_eq, sym, ap, ap₂, arith}
use Rattle.std.specs.Str.{bytes_eq}
use Rattle.std.specs.Ordering.{nat_cmp, int_cmp}
use Rattle.std.specs.Cmp.Lexicographic.{slice_cmp}
use Rattle.std.proofs.lemmas.Bool.Decides.{nat_tests}
use Rattle.std.proofs.lemmas.Slice.Eq.{bytes_eq-Decides}
use Rattle.def_term.specs.Tree.{atom, pid}
use Rattle.def_term.specs.Order.{tree_cmp}
use Rattle.tn_term.specs.Views.{tree_of}
use Rattle.tn_term.specs.declared.term.Term.{Term, Int, Atom, Pid}
use Rattle.tn_term.proofs.Views.{tree_of_int, tree_of_atom, tree_of_pid}

pub same_pids : {A B : Type 0} (s : Term A) (t : Term B) (m n : ℕ) → s ≡ Pid m → t ≡ Pid n → IsTrue (nat_eq m n) ↔ (tree_of s ≡ tree_of t)
same_pids s t m n e f =
    let one : tree_of s ≡ pid m = ap tree_of e ∙ tree_of_pid _ m in
    let other : tree_of t ≡ pid n = ap tree_of f ∙ tree_of_pid _ n in (
      λ h. let k : m ≡ n = grind (arith, nat_tests) in cc,
      λ h. let k : m ≡ n = cc in grind (arith, nat_tests),
    )

-- where a and b, the texts that are compared, are those of the two atoms
pub same_atoms : {A B : Type 0} (s : Term A) (t : Term B) (x y a b : List ℕ) (r : Bool)
    → s ≡ Atom x → t ≡ Atom y → a ≡ x → b ≡ y → r ≡ bytes_eq a b → IsTrue r ↔ (tree_of s ≡ tree_of t)
same_atoms s t x y a b r e f p q h =
    let one : tree_of s ≡ atom x = ap tree_of e ∙ tree_of_atom _ x in
    let other : tree_of t ≡ atom y = ap tree_of f ∙ tree_of_atom _ y in
    let same = bytes_eq-Decides a b in (
      λ yes. let k : a ≡ b = same.0 (sym h ∙ yes) in cc,
      λ e. let k : a ≡ b = cc in h ∙ same.1 k,
    )

pub order_of_ints : {A B : Type 0} (s : Term A) (t : Term B) (m n : ℤ) → s ≡ Int m → t ≡ Int n → tree_cmp (tree_of s) (tree_of t) ≡ int_cmp m n
order_of_ints s t m n e f = ap₂ tree_cmp (ap tree_of e ∙ tree_of_int _ m) (ap tree_of f ∙ tree_of_int _ n)

pub order_of_pids : {A B : Type 0} (s : Term A) (t : Term B) (m n : ℕ) → s ≡ Pid m → t ≡ Pid n → tree_cmp (tree_of s) (tree_of t) ≡ nat_cmp m n
order_of_pids s t m n e f = ap₂ tree_cmp (ap tree_of e ∙ tree_of_pid _ m) (ap tree_of f ∙ tree_of_pid _ n)

pub order_of_atoms : {A B : Type 0} (s : Term A) (t : Term B) (x y a b : List ℕ)
    → s ≡ Atom x → t ≡ Atom y → a ≡ x → b ≡ y → tree_cmp (tree_of s) (tree_of t) ≡ slice_cmp nat_cmp a b
order_of_atoms s t x y a b e f p q =
    ap₂ tree_cmp (ap tree_of e ∙ tree_of_atom _ x) (ap tree_of f ∙ tree_of_atom _ y) ∙ sym (ap₂ (slice_cmp nat_cmp) p q)
