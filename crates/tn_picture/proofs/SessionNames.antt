-- One more of the sessions of a control list.
use Rattle.std.proofs.Common.{◌≡◌, ◌∙◌, ℕ, zero, suc, ◌+◌, ◌<◌, ◌≤◌, List, [], ◌∷◌, ◌++◌, map, take, length, Option, Some, None, ap, add-one, arith}
use Rattle.std.specs.Prelude.{slice_get}
use Rattle.std.proofs.lemmas.List.{take_all}
use Rattle.def_term.specs.Names.{Name}

abbrev pub names_among : List (Name × Name) → List Name
names_among cs = map (λ s. s.0) cs

one-suc : (cs : List (Name × Name)) (n : ℕ) (s : Name × Name) → slice_get cs n ≡ Some s → names_among (take (suc n) cs) ≡ names_among (take n cs) ++ s.0 ∷ []
one-suc [] n s h = absurd (cc h)
one-suc (c ∷ cs) zero s h = ap (λ (o : Option (Name × Name)). names_among (first o)) h
  where
    first : Option (Name × Name) → List (Name × Name)
    first (Some x) = x ∷ []
    first None = []
one-suc (c ∷ cs) (suc n) s h = ap (λ l. c.0 ∷ l) (one-suc cs n s h)

pub one_name : (cs : List (Name × Name)) (n : ℕ) (s : Name × Name) → slice_get cs n ≡ Some s → names_among (take (n + 1) cs) ≡ names_among (take n cs) ++ s.0 ∷ []
one_name cs n s h = ap (λ k. names_among (take k cs)) (add-one n) ∙ one-suc cs n s h

pub no_name : (cs : List (Name × Name)) (n : ℕ) → n < length cs → slice_get cs n ≡ None → ⊥
no_name [] n below h = absurd (omega arith)
no_name (c ∷ cs) zero below h = absurd (cc h)
no_name (c ∷ cs) (suc n) below h = no_name cs n (omega arith) h

pub all_names : (cs : List (Name × Name)) (n : ℕ) → length cs ≤ n → names_among (take n cs) ≡ names_among cs
all_names cs n past = ap names_among (take_all n cs past)
