-- The prefix that is found is the longest.
use Rattle.std.proofs.Common.{◌≡◌, ◌<◌, ◌≤◌, ℕ, zero, suc, List, refl, ◌∙◌, ap, subst, ◌⊎◌, inl, inr, arith}
use Rattle.std.proofs.Math.Nat.{le-suc_iff}
use Rattle.std.specs.Prelude.{Option, Some, None, unwrap_or}
use Rattle.def_term.specs.Tree.{Tree}
use Rattle.def_explore.specs.Answers.{RestEntry}
use Rattle.def_compare.specs.Entries.{Match, Prefix, prefix_or, prefix_match, longest_prefix}
use Rattle.def_compare.specs.Laws.{PrefixIsLongest}

none_is : {X : Type 0} (x : X) → None ≡ Some x → ⊥
none_is x h = cc

some_is : {X : Type 0} (x y : X) → Some x ≡ Some y → x ≡ y
some_is x y h = ap (λ o. unwrap_or o x) h

-- it begins its entry, and no entry begins with more of so many messages
abbrev IsLongest : List Tree → List RestEntry → ℕ → Prefix → Type 0
IsLongest ms es n f = (prefix_match ms es f.count ≡ Some f.by) × ((k : ℕ) → f.count < k → k ≤ n → prefix_match ms es k ≡ None)

-- of so many messages none is longer
at_once : (ms : List Tree) (es : List RestEntry) (n : ℕ) (m : Match) → prefix_match ms es n ≡ Some m → IsLongest ms es n (record { count = n; by = m })
at_once ms es n m is = (is, λ k more less. absurd (omega (arith, more, less)))

pub prefix_is_longest : PrefixIsLongest
prefix_is_longest ms es zero f h = go (prefix_match ms es 0) refl h
  where
    go : (o : Option Match) → prefix_match ms es 0 ≡ o → prefix_or 0 o None ≡ Some f → IsLongest ms es 0 f
    go None is g = absurd (none_is f g)
    go (Some m) is g = subst (IsLongest ms es 0) (some_is (record { count = 0; by = m }) f g) (at_once ms es 0 m is)
prefix_is_longest ms es (suc n) f h = go (prefix_match ms es (suc n)) refl h (prefix_is_longest ms es n f)
  where
    by : prefix_match ms es (suc n) ≡ None → IsLongest ms es n f → (k : ℕ) → f.count < k → (k ≤ n) ⊎ (k ≡ suc n) → prefix_match ms es k ≡ None
    by is before k more (inl less) = before.1 k more less
    by is before k more (inr e) = ap (prefix_match ms es) e ∙ is

    go : (o : Option Match) → prefix_match ms es (suc n) ≡ o → prefix_or (suc n) o (longest_prefix ms es n) ≡ Some f → (longest_prefix ms es n ≡ Some f → IsLongest ms es n f) → IsLongest ms es (suc n) f
    go (Some m) is g later = subst (IsLongest ms es (suc n)) (some_is (record { count = suc n; by = m }) f g) (at_once ms es (suc n) m is)
    go None is g later = ((later g).0, λ k more less. by is (later g) k more (le-suc_iff.0 less))
