-- What all templates of a list stand for.
use Rattle.std.proofs.Common.{◌≡◌, ℕ, zero, suc, ◌+◌, ◌<◌, ◌≤◌, ◌-◌, max, Bool, true, false, cond, ◌&&◌, Some, None, List, [], ◌∷◌, length, get_or, take, drop, map, refl, ap, sym, ◌∙◌, arith}
use Rattle.std.proofs.lemmas.List.{drop_more}
use Rattle.def_term.specs.Tree.{Tree, int, atom, pid, tuple, list, Trees, more, of_elements, size, depth, sum_of_sizes, greatest_depth}
use Rattle.tn_term.proofs.Trees.{seen, here}
use Rattle.def_node.specs.Values.{Env, instance_of, all_built, fits}
use Rattle.def_node.specs.Values.{all_fit}

pub seen_built : {X : Type 0} (f : X → Tree) (e : Env) (xs : List X) → all_built e (of_elements (map f xs)) ≡ of_elements (map (λ x. instance_of e (f x)) xs)
seen_built f e [] = refl
seen_built f e (x ∷ xs) = ap (more (instance_of e (f x))) (seen_built f e xs)

pub all_taken : {X Z : Type 0} (f : X → Z) (xs : List X) (i : ℕ) → length xs ≤ i → map f (take i xs) ≡ map f xs
all_taken f [] zero h = refl
all_taken f [] (suc i) h = refl
all_taken f (x ∷ xs) zero h = absurd (omega arith)
all_taken f (x ∷ xs) (suc i) h = ap (λ ys. f x ∷ ys) (all_taken f xs i (omega arith))

pub fit_here : {X : Type 0} (f : X → Tree) (xs : List X) (i : ℕ) (x : X) → i < length xs → x ≡ get_or xs i x
    → all_fit (map f (drop i xs)) ≡ (fits (f x) && all_fit (map f (drop (i + 1) xs)))
fit_here f xs i x below is = ap (λ ys. all_fit (map f ys)) (drop_more xs i x below) ∙ ap (λ z. fits (f z) && all_fit (map f (drop (i + 1) xs))) (sym is)

pub fit_false : (b : Bool) (c d : Bool) → c ≡ (b && d) → b ≡ false → false ≡ c
fit_false b c d e h = sym (e ∙ ap (λ x. x && d) h)

pub fit_true : (b : Bool) (c d : Bool) → c ≡ (b && d) → b ≡ true → d ≡ c
fit_true b c d e h = sym (e ∙ ap (λ x. x && d) h)

pub map_twice : {X Y Z : Type 0} (f : X → Y) (g : Y → Z) (xs : List X) → map (λ x. g (f x)) xs ≡ map g (map f xs)
map_twice f g [] = refl
map_twice f g (x ∷ xs) = ap (λ ys. g (f x) ∷ ys) (map_twice f g xs)

-- each term has a size
pub no_room : (t : Tree) (n d : ℕ) → n ≡ 0 → size t ≤ n → depth t ≤ d → ⊥
no_room (int z) n d e h k = omega arith
no_room (atom a) n d e h k = omega arith
no_room (pid p) n d e h k = omega arith
no_room (tuple ts) n d e h k = omega arith
no_room (list ts) n d e h k = omega arith

-- an element for which there is no room leaves none for all of them
pub past_elements : {X : Type 0} (f : X → Tree) (e : Env) (xs : List X) (i : ℕ) (x : X) (n d total greatest : ℕ) (whole : Trees)
    → i < length xs → x ≡ get_or xs i x → total ≤ n → greatest + 1 ≤ d
    → total + sum_of_sizes (all_built e (seen f (drop i xs))) ≡ 1 + sum_of_sizes whole
    → max greatest (greatest_depth (all_built e (seen f (drop i xs)))) ≡ greatest_depth whole
    → (size (instance_of e (f x)) ≤ n - total → depth (instance_of e (f x)) ≤ d - 1 → ⊥)
    → 1 + sum_of_sizes whole ≤ n → 1 + greatest_depth whole ≤ d → ⊥
past_elements f e xs i x n d total greatest whole below is small low sized nested past size_fits depth_fits =
    let next = here f xs i x below is in
    let sizes = ap (λ ts. sum_of_sizes (all_built e ts)) next in
    let depths = ap (λ ts. greatest_depth (all_built e ts)) next in
    past (omega arith) (omega arith)

-- what was built of all elements is all of it
pub elements_built : {X Y : Type 0} (f : X → Tree) (h : Y → Tree) (e : Env) (xs zs : List X) (i : ℕ) (ys : List Y)
    → length xs ≤ i → xs ≡ zs → map h ys ≡ map (λ x. instance_of e (f x)) (take i xs) → seen h ys ≡ all_built e (seen f zs)
elements_built f h e xs zs i ys past same built =
    ap of_elements (built ∙ all_taken (λ x. instance_of e (f x)) xs i past) ∙ sym (seen_built f e xs) ∙ ap (λ vs. all_built e (seen f vs)) same

-- the terms after the last are within the limits
pub all_past : {X : Type 0} (f : X → Tree) (xs : List X) (i : ℕ) → length xs ≤ i → all_fit (map f (drop i xs)) ≡ true
all_past f [] zero h = refl
all_past f [] (suc i) h = refl
all_past f (x ∷ xs) zero h = absurd (omega arith)
all_past f (x ∷ xs) (suc i) h = all_past f xs i (omega arith)

pub not_fit : {T : Type 0} (b : Bool) (t : T) → None ≡ cond b (Some t) None → b ≡ false
not_fit true t e = absurd (let k : None ≡ Some t = e in cc)
not_fit false t e = refl

pub fit_some : {T : Type 0} (b : Bool) (t u : T) → Some u ≡ cond b (Some t) None → b ≡ true
fit_some true t u e = refl
fit_some false t u e = absurd (let k : Some u ≡ None = e in cc)

pub fit_is : {T : Type 0} (b : Bool) (t u : T) → Some u ≡ cond b (Some t) None → u ≡ t
fit_is true t u e = let k : Some u ≡ Some t = e in cc
fit_is false t u e = absurd (let k : Some u ≡ None = e in cc)
