-- What is computed is the first term that is no clause.
use Rattle.std.proofs.Common.{◌≡◌, ℕ, zero, suc, ◌+◌, Some, Ok, Err, refl, sym, ap, ◌∙◌, subst, add-zero, zero-add, arith}
use Rattle.def_term.specs.Tree.{Trees, none, more}
use Rattle.def_spec.specs.Expressions.{Dialect}
use Rattle.def_spec.specs.Outcome.{Clause}
use Rattle.def_spec.specs.Reading.{Reads, clause_of}
use Rattle.def_explain.specs.Places.{StopsAtClause, this_or, stop_after}
use Rattle.def_explain.specs.Laws.{StopIsComputed}

module _ (d : Dialect) where
  some_is : (m n : ℕ) → Some m ≡ Some n → m ≡ n
  some_is m n e = cc e

  later : (m n : ℕ) → m + suc n ≡ suc m + n
  later m n = omega arith

  sound : (n m : ℕ) (ts : Trees) → stop_after d n ts ≡ Some m → (k : ℕ) × (m ≡ k + n) × StopsAtClause d ts k
  sound n m none h = absurd (cc h)
  sound n m (more t ts) h = go (clause_of d t) refl h (λ e. sound (suc n) m ts e)
    where
      go : (r : Reads Clause) → clause_of d t ≡ r → this_or n r (stop_after d (suc n) ts) ≡ Some m → (stop_after d (suc n) ts ≡ Some m → (k : ℕ) × (m ≡ k + suc n) × StopsAtClause d ts k) → (k : ℕ) × (m ≡ k + n) × StopsAtClause d (more t ts) k
      go (Ok c) e f again =
          let z : (k : ℕ) × (m ≡ k + suc n) × StopsAtClause d ts k = again f in
          (suc z.0, z.1 ∙ later z.0 n, (c, e, z.2))
      go (Err x) e f again = (zero, sym (some_is n m f) ∙ sym (zero-add n), (x, e))

  complete : (n k : ℕ) (ts : Trees) → StopsAtClause d ts k → stop_after d n ts ≡ Some (k + n)
  complete n k none h = absurd h
  complete n zero (more t ts) h = ap (λ r. this_or n r (stop_after d (suc n) ts)) h.1 ∙ ap Some (sym (zero-add n))
  complete n (suc k) (more t ts) h = ap (λ r. this_or n r (stop_after d (suc n) ts)) h.1 ∙ complete (suc n) k ts h.2 ∙ ap Some (later k n)

pub stop_is_computed : StopIsComputed
stop_is_computed d ts n = (
  λ h. let z : (k : ℕ) × (n ≡ k + zero) × StopsAtClause d ts k = sound d zero n ts h in subst (StopsAtClause d ts) (sym (z.1 ∙ add-zero z.0)) z.2,
  λ h. complete d zero n ts h ∙ ap Some (add-zero n),
)
