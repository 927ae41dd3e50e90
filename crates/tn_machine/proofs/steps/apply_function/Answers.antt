use Rattle.std.proofs.Common.{◌≡◌, ℕ, ◌≤◌, ◌<◌, List, [], ◌∷◌, length, map, get_or, Some, ap, ap₂, ◌∙◌, arith}
use Rattle.def_term.specs.Tree.{Tree}
use Rattle.def_spec.specs.Functions as table
use Rattle.def_machine.specs.Machine.{Registers, before, terms_in}
use Rattle.tn_guard.specs.Views.{value_seen}
use Rattle.tn_machine.specs.Views.{registers_seen}
use Rattle.tn_spec.specs.Views.{func_of}
use Rattle.tn_machine.proofs.steps.apply_function.Goals as goal

-- the term in the one register of a list
terms-in-one : (g : Registers) (rs : List ℕ) (t : Tree) → 1 ≤ length rs → length rs < 2 → g (get_or rs 0 0) ≡ Some t → terms_in g rs ≡ Some (t ∷ [])
terms-in-one g [] t least most h = absurd (omega (arith, least))
terms-in-one g (r ∷ []) t least most h = ap (λ o. before o (Some [])) h
terms-in-one g (r ∷ q ∷ rs) t least most h = absurd (omega (arith, most))

-- the terms in the two registers of a list
terms-in-two : (g : Registers) (rs : List ℕ) (t u : Tree) → 2 ≤ length rs → length rs < 3 → g (get_or rs 0 0) ≡ Some t → g (get_or rs 1 0) ≡ Some u → terms_in g rs ≡ Some (t ∷ u ∷ [])
terms-in-two g [] t u least most h i = absurd (omega (arith, least))
terms-in-two g (r ∷ []) t u least most h i = absurd (omega (arith, least))
terms-in-two g (r ∷ q ∷ []) t u least most h i = ap₂ (λ o p. before o (before p (Some []))) h i
terms-in-two g (r ∷ q ∷ p ∷ rs) t u least most h i = absurd (omega (arith, most))

pub returns-in-len1 : goal.returns-in-len1
returns-in-len1 g c = (
  c.value_in.result ∷ [],
  terms-in-one (registers_seen c.args.registers.now) c.args.from.now (value_seen c.value_in.result) c.in-len1.len_at_least c.in-len1.len_below c.value_in.ensures,
  c.apply.ensures,
)

pub returns-in-len2 : goal.returns-in-len2
returns-in-len2 g c = (
  c.value_in-in-len2.result ∷ c.value_in-in-len2-2.result ∷ [],
  terms-in-two (registers_seen c.args.registers.now) c.args.from.now (value_seen c.value_in-in-len2.result) (value_seen c.value_in-in-len2-2.result)
      c.in-len2.len_at_least c.in-len2.len_below c.value_in-in-len2.ensures c.value_in-in-len2-2.ensures,
  c.apply-in-len2.ensures,
)

pub returns-in_ok-values-in_default : goal.returns-in_ok-values-in_default
returns-in_ok-values-in_default g c = (
  c.in_ok-values-in_default.values.items,
  c.in_ok-values-in_default.ensures,
  c.apply-in_default.ensures ∙ ap (λ vs. table.apply (func_of c.args.func) (map value_seen vs) c.args.scene.now.context.now.self_pid) c.as_slice.ensures,
)
