-- The texts of effects, one after another.
use Rattle.std.proofs.Common.{◌≡◌, ◌∙◌, ℕ, ◌+◌, ◌<◌, List, [], ◌∷◌, ◌++◌, codes, length, get_or, drop, flat_map, map, refl, sym, ap, append_assoc, length-append, arith}
use Rattle.std.proofs.lemmas.List.{drop_more}
use Rattle.def_explain.specs.Texts.{effect_text, effects_text, said_of_flags}
use Rattle.tn_action.specs.Views.{effect_seen}
use Rattle.tn_action.specs.declared.effect.Effect.{Effect}
use Rattle.tn_verdict.specs.Effects.{next_effect_text}

module _ {A : Type 0} (xs : List (Effect A)) where
  abbrev pub texts_after : ℕ → List ℕ
  texts_after i = flat_map next_effect_text (map effect_seen (drop i xs))

  -- one more effect
  pub next_effect : (i : ℕ) (x : Effect A) (now after whole : List ℕ) → i < length xs → x ≡ get_or xs i x
      → now ++ texts_after i ≡ whole → after ≡ now ++ next_effect_text (effect_seen x) → after ++ texts_after (i + 1) ≡ whole
  next_effect i x now after whole below is so_far made =
      ap (λ l. l ++ texts_after (i + 1)) made
      ∙ append_assoc now (next_effect_text (effect_seen x)) (texts_after (i + 1))
      ∙ ap (λ y. now ++ (next_effect_text (effect_seen y) ++ texts_after (i + 1))) is
      ∙ ap (λ ys. now ++ flat_map next_effect_text (map effect_seen ys)) (sym (drop_more xs i x below))
      ∙ so_far

-- the first effect, after a colon
pub first_effect : {A : Type 0} (xs : List (Effect A)) (x : Effect A) (o b d : List ℕ) → 0 < length xs → x ≡ get_or xs 0 x → b ≡ o ++ codes ": " → d ≡ b ++ effect_text (effect_seen x)
    → d ++ texts_after xs 1 ≡ o ++ effects_text (map effect_seen xs)
first_effect [] x o b d some is first second = absurd (omega arith)
first_effect (y ∷ ys) x o b d some is first second =
    let rest : List ℕ = flat_map next_effect_text (map effect_seen ys) in
    ap (λ l. l ++ rest) second ∙ append_assoc b (effect_text (effect_seen x)) rest
    ∙ ap (λ l. l ++ (effect_text (effect_seen x) ++ rest)) first ∙ append_assoc o (codes ": ") (effect_text (effect_seen x) ++ rest)
    ∙ ap (λ z. o ++ (codes ": " ++ (effect_text (effect_seen z) ++ rest))) is

-- ---- changes of flags

said_kept : (t : List ℕ) → length t ≡ 0 → t ++ codes " keeps its flags" ≡ said_of_flags t
said_kept [] e = refl
said_kept (b ∷ bs) e = absurd (omega arith)

said_other : (t : List ℕ) → (length t ≡ 0 → ⊥) → t ≡ said_of_flags t
said_other [] e = absurd (e refl)
said_other (b ∷ bs) e = refl

-- what is said of the flags after a pid, where nothing is, and where something is
module _ (o pid lost got p a b : List ℕ) (first : p ≡ o ++ pid) (second : a ≡ p ++ lost) (third : b ≡ a ++ got) where
  both : b ≡ p ++ (lost ++ got)
  both = third ∙ ap (λ l. l ++ got) second ∙ append_assoc p lost got

  counted : length b ≡ length p + length (lost ++ got)
  counted = ap length both ∙ length-append p (lost ++ got)

  after_pid : (t : List ℕ) → p ++ t ≡ o ++ (pid ++ t)
  after_pid t = ap (λ l. l ++ t) first ∙ append_assoc o pid t

  pub keeps_flags : (d : List ℕ) → length b ≡ length p → d ≡ b ++ codes " keeps its flags" → d ≡ o ++ (pid ++ said_of_flags (lost ++ got))
  keeps_flags d same fourth =
      fourth ∙ ap (λ l. l ++ codes " keeps its flags") both ∙ append_assoc p (lost ++ got) (codes " keeps its flags")
      ∙ ap (λ l. p ++ l) (said_kept (lost ++ got) (omega (arith, counted, same))) ∙ after_pid (said_of_flags (lost ++ got))

  pub changes_flags : (length b ≡ length p → ⊥) → b ≡ o ++ (pid ++ said_of_flags (lost ++ got))
  changes_flags other = both ∙ ap (λ l. p ++ l) (said_other (lost ++ got) (λ e. other (omega (arith, counted, e)))) ∙ after_pid (said_of_flags (lost ++ got))
