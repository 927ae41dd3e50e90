-- Finding and binding a variable, by its place.
use Rattle.std.proofs.Common.{◌≡◌, ℕ, zero, suc, ◌+◌, ◌<◌, Bool, true, false, List, [], ◌∷◌, ◌++◌, length, get_or, map, Option, Some, None, refl, ap, sym, ◌∙◌, arith, cond}
use Rattle.std.proofs.Common.{◌≤◌, slice_get}
use Rattle.std.specs.Option.{option_map}
use Rattle.std.proofs.lemmas.Option.{slice_get-map, slice_get-get_or, slice_get_past}
use Rattle.std.proofs.Math.ListN.{set}
use Rattle.std.specs.Str.{bytes_eq}
use Rattle.std.specs.List.{position, position_from}
use Rattle.std.proofs.lemmas.Iterator.Adapters.{position_from-zero}
use Rattle.def_term.specs.Tree.{Tree}
use Rattle.std.proofs.Common.{drop}
use Rattle.std.proofs.lemmas.List.{drop_more}
use Rattle.def_term.specs.Names.{Name, Mfa, same_mfa}
use Rattle.def_script.specs.Program.{Function, mfa_of, number_from}
use Rattle.def_node.specs.Values.{Env, binding_of, rebound}

pub found_at : {X : Type 0} (f : X → Name × Tree) (xs : List X) (x : Name) (i : ℕ) (d : X)
    → i < length xs → bytes_eq (f (get_or xs i d)).0 x ≡ true → ((k : ℕ) → k < i → bytes_eq (f (get_or xs k d)).0 x ≡ false)
    → binding_of (map f xs) x ≡ Some (f (get_or xs i d)).1
found_at f [] x i d below here before = absurd (omega arith)
found_at f (y ∷ ys) x zero d below here before = ap (λ b. cond b (Some (f y).1) (binding_of (map f ys) x)) here
found_at f (y ∷ ys) x (suc i) d below here before =
    ap (λ b. cond b (Some (f y).1) (binding_of (map f ys) x)) (before 0 (omega arith)) ∙ found_at f ys x i d (omega arith) here (λ k h. before (suc k) (omega arith))

none_step : (b : Bool) (i : ℕ) (o : Option ℕ) (v : Tree) (r : Option Tree) → cond b (Some i) o ≡ None → (o ≡ None → r ≡ None) → cond b (Some v) r ≡ None
none_step true i o v r e h = absurd (let k : Some i ≡ None = e in cc)
none_step false i o v r e h = h e

found_none_from : {X : Type 0} (f : X → Name × Tree) (xs : List X) (x : Name) (j : ℕ)
    → position_from (λ y. bytes_eq (f y).0 x) j xs ≡ None → binding_of (map f xs) x ≡ None
found_none_from f [] x j e = refl
found_none_from f (y ∷ ys) x j e = none_step (bytes_eq (f y).0 x) j _ (f y).1 (binding_of (map f ys) x) e (found_none_from f ys x (j + 1))

pub found_none : {X : Type 0} (f : X → Name × Tree) (xs : List X) (x : Name) → position (λ y. bytes_eq (f y).0 x) xs ≡ None → binding_of (map f xs) x ≡ None
found_none f xs x e = found_none_from f xs x 0 (sym (position_from-zero (λ y. bytes_eq (f y).0 x) xs) ∙ e)

pub bound_at : {X : Type 0} (f : X → Name × Tree) (xs : List X) (x : Name) (t : Tree) (i : ℕ) (d y : X)
    → i < length xs → bytes_eq (f (get_or xs i d)).0 x ≡ true → ((k : ℕ) → k < i → bytes_eq (f (get_or xs k d)).0 x ≡ false)
    → f y ≡ ((f (get_or xs i d)).0, t) → map f (set xs i y) ≡ rebound (map f xs) x t
bound_at f [] x t i d y below here before new = absurd (omega arith)
bound_at f (z ∷ zs) x t zero d y below here before new =
    ap (λ e. e ∷ map f zs) new ∙ sym (ap (λ b. cond b (((f z).0, t) ∷ map f zs) (f z ∷ rebound (map f zs) x t)) here)
bound_at f (z ∷ zs) x t (suc i) d y below here before new =
    ap (λ es. f z ∷ es) (bound_at f zs x t i d y (omega arith) here (λ k h. before (suc k) (omega arith)) new)
    ∙ sym (ap (λ b. cond b (((f z).0, t) ∷ map f zs) (f z ∷ rebound (map f zs) x t)) (before 0 (omega arith)))

new_step : (b : Bool) (i : ℕ) (o : Option ℕ) (e : Name × Tree) (es new : Env) (all changed : Env) → cond b (Some i) o ≡ None
    → (o ≡ None → new ≡ changed) → e ∷ new ≡ cond b all (e ∷ changed)
new_step true i o e es new all changed n h = absurd (let k : Some i ≡ None = n in cc)
new_step false i o e es new all changed n h = ap (λ rest. e ∷ rest) (h n)

bound_none_from : {X : Type 0} (f : X → Name × Tree) (xs : List X) (x : Name) (t : Tree) (j : ℕ) (y : X)
    → position_from (λ y. bytes_eq (f y).0 x) j xs ≡ None → f y ≡ (x, t) → map f (xs ++ y ∷ []) ≡ rebound (map f xs) x t
bound_none_from f [] x t j y e new = ap (λ z. z ∷ []) new
bound_none_from f (z ∷ zs) x t j y e new =
    new_step (bytes_eq (f z).0 x) j _ (f z) (map f zs) _ (((f z).0, t) ∷ map f zs) _ e (λ n. bound_none_from f zs x t (j + 1) y n new)

pub bound_none : {X : Type 0} (f : X → Name × Tree) (xs : List X) (x : Name) (t : Tree) (y : X)
    → position (λ y. bytes_eq (f y).0 x) xs ≡ None → f y ≡ (x, t) → map f (xs ++ y ∷ []) ≡ rebound (map f xs) x t
bound_none f xs x t y e new = bound_none_from f xs x t 0 y (sym (position_from-zero (λ y. bytes_eq (f y).0 x) xs) ∙ e) new

pub number_here : {X : Type 0} (h : X → Function) (xs : List X) (f : Mfa) (i : ℕ) (x : X) → i < length xs → x ≡ get_or xs i x
    → number_from i (map h (drop i xs)) f ≡ cond (same_mfa (mfa_of (h x)) f) (Some i) (number_from (i + 1) (map h (drop (i + 1) xs)) f)
number_here h xs f i x below is =
    let e : suc i ≡ i + 1 = omega arith in
    ap (λ ys. number_from i (map h ys) f) (drop_more xs i x below)
    ∙ ap (λ j. cond (same_mfa (mfa_of (h (get_or xs i x))) f) (Some i) (number_from j (map h (drop (i + 1) xs)) f)) e
    ∙ ap (λ z. cond (same_mfa (mfa_of (h z)) f) (Some i) (number_from (i + 1) (map h (drop (i + 1) xs)) f)) (sym is)

pub number_true : (b : Bool) (x y z : Option ℕ) → z ≡ cond b x y → b ≡ true → x ≡ z
number_true b x y z e h = sym (e ∙ ap (λ v. cond v x y) h)

pub number_false : (b : Bool) (x y z : Option ℕ) → z ≡ cond b x y → b ≡ false → y ≡ z
number_false b x y z e h = sym (e ∙ ap (λ v. cond v x y) h)

-- the element at a place, seen as what it stands for
pub seen_at : {X Y : Type 0} (h : X → Y) (xs : List X) (i : ℕ) (x : X) → i < length xs → x ≡ get_or xs i x → slice_get (map h xs) i ≡ Some (h x)
seen_at h xs i x below is = slice_get-map h xs i ∙ ap (option_map h) (slice_get-get_or xs i x below ∙ ap Some (sym is))

pub none_at : {X Y : Type 0} (h : X → Y) (xs : List X) (i : ℕ) → length xs ≤ i → slice_get (map h xs) i ≡ None
none_at h xs i past = slice_get-map h xs i ∙ ap (option_map h) (slice_get_past xs i past)
