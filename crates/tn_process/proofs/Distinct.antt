-- Names that are distinct: where a name is, it is for the first time.
use Rattle.std.proofs.Common.{◌≡◌, ℕ, zero, suc, ◌+◌, ◌<◌, Bool, true, false, ◌&&◌, ◌||◌, not, cond, List, [], ◌∷◌, ◌++◌, length, get_or, map, Option, Some, None, eqb-true, refl, ap, sym, ◌∙◌, arith}
use Rattle.std.specs.Str.{bytes_eq}
use Rattle.std.specs.List.{position, position_from}
use Rattle.std.proofs.lemmas.Slice.Eq.{bytes_eq-Decides}
use Rattle.std.proofs.lemmas.Bool.{and_parts}
use Rattle.std.proofs.lemmas.Iterator.Adapters.{position_from-zero}
use Rattle.def_term.specs.Names.{Name, Mfa, same_mfa}
use Rattle.def_term.specs.Text.{is_among}
use Rattle.def_script.specs.Shapes.{are_distinct}

or_true : (b : Bool) → (b || true) ≡ true
or_true true = refl
or_true false = refl

clash : {P : Type 0} (b : Bool) → b ≡ true → b ≡ false → P
clash b holds fails = absurd (let e : true ≡ false = sym holds ∙ fails in cc)

unless : (b : Bool) → (b ≡ true → ⊥) → b ≡ false
unless true never = absurd (never refl)
unless false never = refl

head_new : (b c : Bool) → (not b && c) ≡ true → b ≡ false
head_new true c e = absurd (let k : false ≡ true = e in cc)
head_new false c e = refl

tail_distinct : (b c : Bool) → (not b && c) ≡ true → c ≡ true
tail_distinct true c e = absurd (let k : false ≡ true = e in cc)
tail_distinct false c e = e

none_head : (b : Bool) (i : ℕ) (o : Option ℕ) → cond b (Some i) o ≡ None → b ≡ false
none_head true i o e = absurd (let k : Some i ≡ None = e in cc)
none_head false i o e = refl

none_tail : (b : Bool) (i : ℕ) (o : Option ℕ) → cond b (Some i) o ≡ None → o ≡ None
none_tail true i o e = absurd (let k : Some i ≡ None = e in cc)
none_tail false i o e = e

among_at : {X : Type 0} (h : X → Name) (xs : List X) (i : ℕ) (d : X) (s : Name)
    → i < length xs → bytes_eq s (h (get_or xs i d)) ≡ true → is_among (map h xs) s ≡ true
among_at h [] i d s below is = absurd (omega arith)
among_at h (y ∷ ys) zero d s below is = ap (λ b. b || is_among (map h ys) s) is
among_at h (y ∷ ys) (suc i) d s below is =
    ap (λ b. bytes_eq s (h y) || b) (among_at h ys i d s (omega arith) is) ∙ or_true (bytes_eq s (h y))

-- a name that is the same as a later one isn't the first of its own
not_first : {X : Type 0} (h : X → Name) (y : X) (ys : List X) (i : ℕ) (d : X) (s : Name)
    → i < length ys → bytes_eq (h (get_or ys i d)) s ≡ true → is_among (map h ys) (h y) ≡ false → bytes_eq (h y) s ≡ false
not_first h y ys i d s below is new =
    unless (bytes_eq (h y) s) (λ holds.
    let same : h y ≡ h (get_or ys i d) = (bytes_eq-Decides (h y) s).0 holds ∙ sym ((bytes_eq-Decides (h (get_or ys i d)) s).0 is) in
    clash _ (among_at h ys i d (h y) below ((bytes_eq-Decides (h y) (h (get_or ys i d))).1 same)) new)

placed_from : {X : Type 0} (h : X → Name) (xs : List X) (s : Name) (i : ℕ) (d : X) (j : ℕ)
    → are_distinct (map h xs) ≡ true → i < length xs → bytes_eq (h (get_or xs i d)) s ≡ true
    → position_from (λ y. bytes_eq (h y) s) j xs ≡ Some (j + i)
placed_from h [] s i d j distinct below is = absurd (omega arith)
placed_from h (y ∷ ys) s zero d j distinct below is =
    ap (λ b. cond b (Some j) (position_from (λ y. bytes_eq (h y) s) (j + 1) ys)) is ∙ ap Some (let e : j ≡ j + 0 = omega arith in e)
placed_from h (y ∷ ys) s (suc i) d j distinct below is =
    let new = head_new (is_among (map h ys) (h y)) (are_distinct (map h ys)) distinct in
    let rest = tail_distinct (is_among (map h ys) (h y)) (are_distinct (map h ys)) distinct in
    ap (λ b. cond b (Some j) (position_from (λ y. bytes_eq (h y) s) (j + 1) ys)) (not_first h y ys i d s (omega arith) is new)
    ∙ placed_from h ys s i d (j + 1) rest (omega arith) is
    ∙ ap Some (let e : (j + 1) + i ≡ j + suc i = omega arith in e)

-- of distinct names the one that is found anywhere is the first
pub placed : {X : Type 0} (h : X → Name) (xs : List X) (s : Name) (i : ℕ) (d : X)
    → are_distinct (map h xs) ≡ true → i < length xs → bytes_eq (h (get_or xs i d)) s ≡ true → Some i ≡ position (λ y. bytes_eq (h y) s) xs
placed h xs s i d distinct below is =
    sym (position_from-zero (λ y. bytes_eq (h y) s) xs ∙ placed_from h xs s i d 0 distinct below is ∙ ap Some (let e : 0 + i ≡ i = omega arith in e))

among_last : {X : Type 0} (h : X → Name) (zs : List X) (y : X) (s : Name)
    → bytes_eq s (h y) ≡ false → is_among (map h (zs ++ y ∷ [])) s ≡ is_among (map h zs) s
among_last h [] y s other = ap (λ b. b || false) other
among_last h (z ∷ zs) y s other = ap (λ b. bytes_eq s (h z) || b) (among_last h zs y s other)

distinct_from : {X : Type 0} (h : X → Name) (xs : List X) (x : Name) (j : ℕ) (y : X)
    → position_from (λ z. bytes_eq (h z) x) j xs ≡ None → h y ≡ x → are_distinct (map h xs) ≡ true → are_distinct (map h (xs ++ y ∷ [])) ≡ true
distinct_from h [] x j y none is distinct = refl
distinct_from h (z ∷ zs) x j y none is distinct =
    let tail = position_from (λ z. bytes_eq (h z) x) (j + 1) zs in
    let other = ap (bytes_eq (h z)) is ∙ none_head (bytes_eq (h z) x) j tail none in
    let new = head_new (is_among (map h zs) (h z)) (are_distinct (map h zs)) distinct in
    let rest = tail_distinct (is_among (map h zs) (h z)) (are_distinct (map h zs)) distinct in
    ap (λ b. not b && are_distinct (map h (zs ++ y ∷ []))) (among_last h zs y (h z) other ∙ new)
    ∙ distinct_from h zs x (j + 1) y (none_tail (bytes_eq (h z) x) j tail none) is rest

-- distinct names and one that was not found among them
pub distinct_more : {X : Type 0} (h : X → Name) (xs : List X) (x : Name) (y : X)
    → position (λ z. bytes_eq (h z) x) xs ≡ None → h y ≡ x → are_distinct (map h xs) ≡ true → are_distinct (map h (xs ++ y ∷ [])) ≡ true
distinct_more h xs x y none is distinct =
    distinct_from h xs x 0 y (sym (position_from-zero (λ z. bytes_eq (h z) x) xs) ∙ none) is distinct

pub same_function : (f g : Mfa) → same_mfa f g ≡ true → f ≡ g
same_function f g e =
    let m = and_parts _ _ e in
    let n = and_parts _ _ m.1 in
    λ i. record {
      module_name = (bytes_eq-Decides f.module_name g.module_name).0 m.0 i;
      function_name = (bytes_eq-Decides f.function_name g.function_name).0 n.0 i;
      arity = eqb-true f.arity g.arity n.1 i;
    }

-- the same after a push, which may be refused
pub pushed_distinct : {X : Type 0} (h : X → Name) (xs ys : List X) (x : Name) (y : X) (b : Bool)
    → ys ≡ cond b (xs ++ y ∷ []) xs → position (λ z. bytes_eq (h z) x) xs ≡ None → h y ≡ x → are_distinct (map h xs) ≡ true → are_distinct (map h ys) ≡ true
pushed_distinct h xs ys x y true pushed none is distinct = ap (λ zs. are_distinct (map h zs)) pushed ∙ distinct_more h xs x y none is distinct
pushed_distinct h xs ys x y false pushed none is distinct = ap (λ zs. are_distinct (map h zs)) pushed ∙ distinct
