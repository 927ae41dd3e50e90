-- The creations among commands, command by command.
use Rattle.std.proofs.Common.{◌≡◌, ℕ, zero, suc, ◌+◌, ◌-◌, ◌==◌, ◌<◌, ◌≤◌, Bool, true, false, ◌&&◌, cond, List, ◌∷◌, length, get_or, drop, map, slice_get, Some, None, refl, sym, ap, ◌∙◌, arith}
use Rattle.std.proofs.lemmas.List.{drop_more}
use Rattle.def_term.specs.Names.{Name}
use Rattle.def_script.specs.Program.{Command, create, destroy, set_processes, set_function, set_send, set_receive}
use Rattle.def_script.specs.Rules.{is_creation}
use Rattle.def_script.specs.Script.{creation_of, creations}

pub creations_at : {X : Type 0} (f : X → Command) (xs : List X) (i : ℕ) (x : X) → i < length xs → x ≡ get_or xs i x → creations (map f (drop i xs)) ≡ creations (f x ∷ map f (drop (i + 1) xs))
creations_at f xs i x below is = ap (λ ys. creations (map f ys)) (drop_more xs i x below) ∙ ap (λ y. creations (f y ∷ map f (drop (i + 1) xs))) (sym is)

pub one_counted : (c : Command) (cs : List Command) → length (creations (c ∷ cs)) ≡ cond (is_creation c) 1 0 + length (creations cs)
one_counted (create s t) cs = omega arith
one_counted (destroy s) cs = omega arith
one_counted (set_processes s p h f) cs = omega arith
one_counted (set_function s m p o) cs = omega arith
one_counted (set_send s p) cs = omega arith
one_counted (set_receive s p) cs = omega arith

pub weighs_little : (b : Bool) (w : ℕ) → w ≡ cond b 1 0 → w ≤ 1
weighs_little true w e = omega arith
weighs_little false w e = omega arith

true_is_not_false : true ≡ false → ⊥
true_is_not_false e = cc

never : (b : Bool) → (b && false) ≡ true → ⊥
never true e = cc
never false e = cc

suc_is_some : (n : ℕ) → (suc n == 0) ≡ false
suc_is_some n = grind arith

pub found_here : (c : Command) (cs : List Command) (n : ℕ) → (n == 0 && is_creation c) ≡ true → creation_of c ≡ slice_get (creations (c ∷ cs)) n
found_here (create s t) cs zero e = refl
found_here (create s t) cs (suc n) e = absurd (true_is_not_false (sym e ∙ ap (λ b. b && true) (suc_is_some n)))
found_here (destroy s) cs n e = absurd (never (n == 0) e)
found_here (set_processes s p h f) cs n e = absurd (never (n == 0) e)
found_here (set_function s m p o) cs n e = absurd (never (n == 0) e)
found_here (set_send s p) cs n e = absurd (never (n == 0) e)
found_here (set_receive s p) cs n e = absurd (never (n == 0) e)

pub passed_over : (c : Command) (cs : List Command) (n w : ℕ) → w ≡ cond (is_creation c) 1 0 → (n == 0 && is_creation c) ≡ false → (w ≤ n) × (slice_get (creations (c ∷ cs)) n ≡ slice_get (creations cs) (n - w))
passed_over (create s t) cs zero w e f = absurd (true_is_not_false f)
passed_over (create s t) cs (suc n) w e f = let same : suc n - w ≡ n = omega arith in (omega arith, ap (slice_get (creations cs)) (sym same))
passed_over (destroy s) cs n w e f = let same : n - w ≡ n = omega arith in (omega arith, ap (slice_get (creations cs)) (sym same))
passed_over (set_processes s p h g) cs n w e f = let same : n - w ≡ n = omega arith in (omega arith, ap (slice_get (creations cs)) (sym same))
passed_over (set_function s m p o) cs n w e f = let same : n - w ≡ n = omega arith in (omega arith, ap (slice_get (creations cs)) (sym same))
passed_over (set_send s p) cs n w e f = let same : n - w ≡ n = omega arith in (omega arith, ap (slice_get (creations cs)) (sym same))
passed_over (set_receive s p) cs n w e f = let same : n - w ≡ n = omega arith in (omega arith, ap (slice_get (creations cs)) (sym same))

-- ---- the first command of some

made_first : (c : Command) (cs : List Command) (x : Name × Name) → creation_of c ≡ Some x → creations (c ∷ cs) ≡ x ∷ creations cs
made_first (create s t) cs x e = let same : (s, t) ≡ x = cc in ap (λ y. y ∷ creations cs) same
made_first (destroy s) cs x e = cc
made_first (set_processes s p h f) cs x e = cc
made_first (set_function s m p o) cs x e = cc
made_first (set_send s p) cs x e = cc
made_first (set_receive s p) cs x e = cc

made_none : (c : Command) (cs : List Command) → creation_of c ≡ None → creations (c ∷ cs) ≡ creations cs
made_none (create s t) cs e = cc
made_none (destroy s) cs e = refl
made_none (set_processes s p h f) cs e = refl
made_none (set_function s m p o) cs e = refl
made_none (set_send s p) cs e = refl
made_none (set_receive s p) cs e = refl

pub first_made : {X : Type 0} (f : X → Command) (xs : List X) (x : X) (rest : List X) (y : Name × Name) → xs ≡ x ∷ rest → creation_of (f x) ≡ Some y → creations (map f xs) ≡ y ∷ creations (map f rest)
first_made f xs x rest y is made = ap (λ zs. creations (map f zs)) is ∙ made_first (f x) (map f rest) y made

pub none_made : {X : Type 0} (f : X → Command) (xs : List X) (x : X) (rest : List X) → xs ≡ x ∷ rest → creation_of (f x) ≡ None → creations (map f xs) ≡ creations (map f rest)
none_made f xs x rest is made = ap (λ zs. creations (map f zs)) is ∙ made_none (f x) (map f rest) made
