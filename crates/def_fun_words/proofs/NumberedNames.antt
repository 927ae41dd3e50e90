-- The name of a number.
use Rattle.std.proofs.Common.{◌≡◌, ◌∙◌, ℕ, suc, ◌+◌, Bool, true, false, cond, List, [], ◌∷◌, slice_get, Some, refl, sym, ap, arith}
use Rattle.std.proofs.lemmas.Slice.Eq.{bytes_eq-Decides}
use Rattle.std.specs.Str.{bytes_eq}
use Rattle.def_term.specs.Names.{Name}
use Rattle.def_fun.specs.Trees.{FunHead}
use Rattle.def_fun.specs.Variables.{names_of, number_among}
use Rattle.def_fun_words.specs.WordTexts.{name_numbered}

there : (n : ℕ) (ns : List Name) (s : Name) (k : ℕ) → number_among n ns s ≡ Some k → (i : ℕ) × (k ≡ n + i) × (slice_get ns i ≡ Some s)
there n [] s k h = absurd (cc)
there n (m ∷ ns) s k h = go (bytes_eq m s) refl (λ e. there (n + 1) ns s k e)
  where
    go : (b : Bool) → bytes_eq m s ≡ b → (number_among (n + 1) ns s ≡ Some k → (i : ℕ) × (k ≡ n + 1 + i) × (slice_get ns i ≡ Some s)) → (i : ℕ) × (k ≡ n + i) × (slice_get (m ∷ ns) i ≡ Some s)
    go true is later =
        let found : Some n ≡ Some k = ap (λ b. cond b (Some n) (number_among (n + 1) ns s)) (sym is) ∙ h in
        let same : n ≡ k = cc in
        (0, omega (arith, same), ap Some ((bytes_eq-Decides m s).0 is))
    go false is later =
        let r = later (ap (λ b. cond b (Some n) (number_among (n + 1) ns s)) (sym is) ∙ h) in
        (suc r.0, omega (arith, r.1), r.2)

pub named : (h : FunHead) (s : Name) (k : ℕ) → number_among 1 (names_of h).numbers s ≡ Some k → name_numbered (names_of h).numbers k ≡ Some s
named h s k e =
    let r = there 1 (names_of h).numbers s k e in
    let next : k ≡ suc r.0 = omega (arith, r.1) in
    ap (name_numbered (names_of h).numbers) next ∙ r.2
