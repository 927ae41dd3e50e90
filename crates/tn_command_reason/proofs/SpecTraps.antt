-- The trap of a Spec: `true`, [] and `false` have none, nor has what can't be read; else it is the first of the clauses.
use Rattle.std.proofs.Common.{◌≡◌, ◌∙◌, ℕ, Bool, true, false, ◌||◌, if◌then◌else◌, List, None, refl, sym, ap, ap₂}
use Rattle.std.specs.Prelude.{Ok, Err}
use Rattle.def_term.specs.Tree.{Tree, list, none}
use Rattle.def_term.specs.Order.{same}
use Rattle.def_term.specs.Names.{word}
use Rattle.def_spec.specs.Expressions.{Dialect}
use Rattle.def_spec.specs.Outcome.{Spec}
use Rattle.def_spec.specs.Reading.{SpecFault, then_read, spec_of}
use Rattle.def_session.specs.Settings.{off, plain, by}
use Rattle.def_trap.specs.Traps.{first_trap}
use Rattle.def_explain.specs.CommandReasons.{clauses_read, spec_trap}
use Rattle.tn_command_reason.specs.HeldTraps.{counted_reason}

module _ (count : ℕ) (d : Dialect) (lengths : List ℕ) (t : Tree) where
  by_tests : (a b : Bool) → (same t (word "true") || same t (list none)) ≡ a → same t (word "false") ≡ b
      → spec_trap count d lengths t
      ≡ counted_reason count d (first_trap d lengths (clauses_read (if a then Ok plain else if b then Ok off else then_read (spec_of d t) (λ s. Ok (by s)))))
  by_tests a b p q =
      ap₂ (λ x y. counted_reason count d (first_trap d lengths (clauses_read (if x then Ok plain else if y then Ok off else then_read (spec_of d t) (λ s. Ok (by s)))))) p q

  pub plain_has_none : (same t (word "true") || same t (list none)) ≡ true → None ≡ spec_trap count d lengths t
  plain_has_none p = sym (by_tests true (same t (word "false")) p refl)

  pub off_has_none : (same t (word "true") || same t (list none)) ≡ false → same t (word "false") ≡ true → None ≡ spec_trap count d lengths t
  off_has_none p q = sym (by_tests false true p q)

  pub fault_has_none : (same t (word "true") || same t (list none)) ≡ false → same t (word "false") ≡ false → (e : SpecFault) → spec_of d t ≡ Err e → None ≡ spec_trap count d lengths t
  fault_has_none p q e r =
      sym (by_tests false false p q ∙ ap (λ x. counted_reason count d (first_trap d lengths (clauses_read (then_read x (λ s. Ok (by s)))))) r)

  pub spec_has : (same t (word "true") || same t (list none)) ≡ false → same t (word "false") ≡ false → (k : Spec) → spec_of d t ≡ Ok k
      → counted_reason count d (first_trap d lengths k.clauses) ≡ spec_trap count d lengths t
  spec_has p q k r =
      sym (by_tests false false p q ∙ ap (λ x. counted_reason count d (first_trap d lengths (clauses_read (then_read x (λ s. Ok (by s)))))) r)
