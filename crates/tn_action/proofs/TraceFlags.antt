-- A change of flags by `trace`, where all is there and where something isn't; and changes of one flag.
use Rattle.std.proofs.Common.{◌≡◌, ◌∙◌, ap, refl, ℕ, List, [], ◌∷◌, length, get_or, map, Option, Some, None, arith}
use Rattle.std.specs.Option.{option_map}
use Rattle.def_term.specs.Tree.{Tree}
use Rattle.def_term.specs.Names.{word}
use Rattle.def_spec.specs.Flags.{Flags}
use Rattle.def_spec.specs.Expressions.{Context, Effect, trace_change, trace_by}
use Rattle.tn_guard.specs.Views.{value_seen}
use Rattle.tn_guard.specs.declared.value.Value.{Value}
use Rattle.tn_action.specs.Steps.{change_seen, two_seen, flags_traced}
use Rattle.tn_action.specs.Views.{effect_seen}
use Rattle.tn_action.specs.declared.effect.Effect as code

module _ (c : Context) (n : Option ℕ) (off on : Option Flags) where
  pub no_process : None ≡ n → None ≡ trace_change c n off on
  no_process e = ap (λ x. trace_change c x off on) e

  pub none_cleared : (m : ℕ) → Some m ≡ n → None ≡ off → None ≡ trace_change c n off on
  none_cleared m e f = ap (λ x. trace_change c (Some m) x on) f ∙ ap (λ x. trace_change c x off on) e

  pub none_set : (m : ℕ) (f : Flags) → Some m ≡ n → Some f ≡ off → None ≡ on → None ≡ trace_change c n off on
  none_set m f e is h = ap (trace_change c (Some m) (Some f)) h ∙ ap (λ x. trace_change c (Some m) x on) is ∙ ap (λ x. trace_change c x off on) e

  pub all_there : (m : ℕ) (f g : Flags) (p : Tree × List Effect) → p ≡ flags_traced c m f g → Some m ≡ n → Some f ≡ off → Some g ≡ on → Some p ≡ trace_change c n off on
  all_there m f g p made e is h =
      ap Some made ∙ ap (trace_change c (Some m) (Some f)) h ∙ ap (λ x. trace_change c (Some m) x on) is ∙ ap (λ x. trace_change c x off on) e

-- `true`, with the change of one flag
pub with_true : {A : Type 0} (r : Option (code.Effect A)) → option_map {U = Tree × List Effect} (λ e. (word "true", effect_seen e ∷ [])) r ≡ option_map {U = Tree × List Effect} (λ es. (word "true", es)) (change_seen r)
with_true None = refl
with_true (Some e) = refl

-- ---- two values, three, and another number of them

module _ {A : Type 0} (vs : List (Value A)) where
  pub two_args : (a b : Value A) → length vs ≡ 2 → a ≡ get_or vs 0 a → b ≡ get_or vs 1 b → two_seen a b ≡ map value_seen vs
  two_args a b n e f = two vs n e f
    where
      two : (us : List (Value A)) → length us ≡ 2 → a ≡ get_or us 0 a → b ≡ get_or us 1 b → two_seen a b ≡ map value_seen us
      two [] n e f = absurd (omega (arith, n))
      two (x ∷ []) n e f = absurd (omega (arith, n))
      two (x ∷ y ∷ []) n e f = ap (λ u. value_seen u ∷ value_seen b ∷ []) e ∙ ap (λ u. value_seen x ∷ value_seen u ∷ []) f
      two (x ∷ y ∷ z ∷ us) n e f = absurd (omega (arith, n))

  pub three_args : (a b c : Value A) → length vs ≡ 3 → a ≡ get_or vs 0 a → b ≡ get_or vs 1 b → c ≡ get_or vs 2 c → value_seen a ∷ two_seen b c ≡ map value_seen vs
  three_args a b c n e f h = three vs n e f h
    where
      three : (us : List (Value A)) → length us ≡ 3 → a ≡ get_or us 0 a → b ≡ get_or us 1 b → c ≡ get_or us 2 c → value_seen a ∷ two_seen b c ≡ map value_seen us
      three [] n e f h = absurd (omega (arith, n))
      three (x ∷ []) n e f h = absurd (omega (arith, n))
      three (x ∷ y ∷ []) n e f h = absurd (omega (arith, n))
      three (x ∷ y ∷ z ∷ []) n e f h = ap (λ u. value_seen u ∷ value_seen b ∷ value_seen c ∷ []) e ∙ ap (λ u. value_seen x ∷ value_seen u ∷ value_seen c ∷ []) f ∙ ap (λ u. value_seen x ∷ value_seen y ∷ value_seen u ∷ []) h
      three (x ∷ y ∷ z ∷ u ∷ us) n e f h = absurd (omega (arith, n))

  pub no_args : (k : Context) → (length vs ≡ 2 → ⊥) → (length vs ≡ 3 → ⊥) → None ≡ trace_by k (map value_seen vs)
  no_args k n m = none vs n m
    where
      none : (us : List (Value A)) → (length us ≡ 2 → ⊥) → (length us ≡ 3 → ⊥) → None ≡ trace_by k (map value_seen us)
      none [] n m = refl
      none (x ∷ []) n m = refl
      none (x ∷ y ∷ []) n m = absurd (n refl)
      none (x ∷ y ∷ z ∷ []) n m = absurd (m refl)
      none (x ∷ y ∷ z ∷ u ∷ us) n m = refl
