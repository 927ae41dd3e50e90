-- A loop that reads each element of a list, and goes no further where one is not read.
use Rattle.std.proofs.Common.{◌≡◌, ℕ, suc, ◌+◌, ◌<◌, ◌&&◌, ◌||◌, not, List, [], ◌∷◌, ◌++◌, length, get_or, drop, map, Option, Some, None, refl, sym, ap, ◌∙◌, append_assoc, arith}
use Rattle.std.proofs.lemmas.List.{drop_more, append-nil, map-append, length-map, nil_from_length}
use Rattle.std.specs.Option.{option_map, option_map_or}
use Rattle.std.specs.Str.{bytes_eq}
use Rattle.def_term.specs.Tree.{Tree}
use Rattle.def_term.specs.Names.{Name}
use Rattle.def_term.specs.Text.{is_among}
use Rattle.def_script.specs.Program.{Form}
use Rattle.def_script.specs.Shapes.{both, each_in, form_in, are_distinct}
use Rattle.def_script.specs.Script.{IsFirstShapeless}

-- what was read so far, before the rest
abbrev pub prepended : {Z : Type 0} → List Z → Option (List Z) → Option (List Z)
prepended xs o = option_map (λ ys. xs ++ ys) o

prepended_nil : {Z : Type 0} (o : Option (List Z)) → o ≡ prepended [] o
prepended_nil None = refl
prepended_nil (Some ys) = refl

prepended_one : {Z : Type 0} (done : List Z) (z : Z) (o : Option (List Z)) → prepended done (both (λ x xs. x ∷ xs) (Some z) o) ≡ prepended (done ++ z ∷ []) o
prepended_one done z None = refl
prepended_one done z (Some ys) = ap Some (sym (append_assoc done (z ∷ []) ys))

length_both : {Z : Type 0} (o : Option Z) (p : Option (List Z)) (n : ℕ) (zs : List Z) → ((ys : List Z) → Some ys ≡ p → length ys ≡ n) → Some zs ≡ both (λ x xs. x ∷ xs) o p → length zs ≡ suc n
length_both None p n zs known e = cc
length_both (Some x) None n zs known e = cc
length_both (Some x) (Some ys) n zs known e =
    let same : zs ≡ x ∷ ys = cc in ap length same ∙ ap suc (known ys refl)

pub each_begins : {X Y Z : Type 0} (f : Tree → Option Z) (g : X → Tree) (h : Y → Z) (xs rest : List X) (done : List Y) → rest ≡ xs → done ≡ [] → each_in f (map g xs) ≡ prepended (map h done) (each_in f (map g rest))
each_begins f g h xs rest done same none = ap (λ ys. each_in f (map g ys)) (sym same) ∙ prepended_nil (each_in f (map g rest)) ∙ ap (λ ds. prepended (map h ds) (each_in f (map g rest))) (sym none)

pub each_length : {Z : Type 0} (f : Tree → Option Z) (ts : List Tree) (zs : List Z) → Some zs ≡ each_in f ts → length zs ≡ length ts
each_length f [] zs e = ap (λ o. option_map_or length o 0) e
each_length f (t ∷ ts) zs e = length_both (f t) (each_in f ts) (length ts) zs (λ ys same. each_length f ts ys same) e

pub each_next : {X Y Z : Type 0} (f : Tree → Option Z) (g : X → Tree) (h : Y → Z) (xs rest next : List X) (x : X) (done new : List Y) (y : Y)
    → rest ≡ x ∷ next → Some (h y) ≡ f (g x) → new ≡ done ++ y ∷ []
    → each_in f (map g xs) ≡ prepended (map h done) (each_in f (map g rest)) → each_in f (map g xs) ≡ prepended (map h new) (each_in f (map g next))
each_next f g h xs rest next x done new y left read pushed so_far =
    so_far ∙ ap (λ ys. prepended (map h done) (each_in f (map g ys))) left
    ∙ ap (λ o. prepended (map h done) (both (λ z zs. z ∷ zs) o (each_in f (map g next)))) (sym read)
    ∙ prepended_one (map h done) (h y) (each_in f (map g next))
    ∙ ap (λ zs. prepended zs (each_in f (map g next))) (sym (ap (map h) pushed ∙ map-append h done (y ∷ [])))

pub each_stops : {X Z : Type 0} (f : Tree → Option Z) (g : X → Tree) (xs rest next : List X) (x : X) (done : List Z)
    → rest ≡ x ∷ next → None ≡ f (g x) → each_in f (map g xs) ≡ prepended done (each_in f (map g rest)) → None ≡ each_in f (map g xs)
each_stops f g xs rest next x done left unread so_far =
    sym (so_far ∙ ap (λ ys. prepended done (each_in f (map g ys))) left ∙ ap (λ o. prepended done (both (λ z zs. z ∷ zs) o (each_in f (map g next)))) (sym unread))

pub each_ends : {X Y Z : Type 0} (f : Tree → Option Z) (g : X → Tree) (h : Y → Z) (xs rest : List X) (done : List Y)
    → length rest ≡ 0 → each_in f (map g xs) ≡ prepended (map h done) (each_in f (map g rest)) → Some (map h done) ≡ each_in f (map g xs)
each_ends f g h xs [] done e so_far = sym (so_far ∙ ap Some (append-nil (map h done)))
each_ends f g h xs (x ∷ rest) done e so_far = absurd (omega (arith, e))

-- a search among names
pub among_more : (ws : List Name) (i : ℕ) (w s : Name) → i < length ws → w ≡ get_or ws i w → is_among (drop i ws) s ≡ (bytes_eq s w || is_among (drop (i + 1) ws) s)
among_more ws i w s below is = ap (λ vs. is_among vs s) (drop_more ws i w below) ∙ ap (λ v. bytes_eq s v || is_among (drop (i + 1) ws) s) (sym is)

pub distinct_more : (ws : List Name) (i : ℕ) (w : Name) → i < length ws → w ≡ get_or ws i w → are_distinct (drop i ws) ≡ (not (is_among (drop (i + 1) ws) w) && are_distinct (drop (i + 1) ws))
distinct_more ws i w below is = ap are_distinct (drop_more ws i w below) ∙ ap (λ v. not (is_among (drop (i + 1) ws) v) && are_distinct (drop (i + 1) ws)) (sym is)

-- the elements that were gone through, each read
pub record ReadSo {X Y Z : Type 0} (f : Tree → Option Z) (g : X → Tree) (h : Y → Z) (xs yielded rest : List X) (done : List Y) : Type 0 where
  pub whole : xs ≡ yielded ++ rest
  pub read : each_in f (map g yielded) ≡ Some (map h done)

push_both : {Z : Type 0} (o : Option Z) (p q : Option (List Z)) (zs : List Z) (z : Z) → ((ys : List Z) → p ≡ Some ys → q ≡ Some (ys ++ z ∷ [])) → both (λ x xs. x ∷ xs) o p ≡ Some zs → both (λ x xs. x ∷ xs) o q ≡ Some (zs ++ z ∷ [])
push_both None p q zs z known e = cc
push_both (Some x) None q zs z known e = cc
push_both (Some x) (Some ys) q zs z known e =
    let same : x ∷ ys ≡ zs = cc in ap (both (λ w ws. w ∷ ws) (Some x)) (known ys refl) ∙ ap (λ ws. Some (ws ++ z ∷ [])) same

each_push : {Z : Type 0} (f : Tree → Option Z) (ts : List Tree) (t : Tree) (zs : List Z) (z : Z) → each_in f ts ≡ Some zs → f t ≡ Some z → each_in f (ts ++ t ∷ []) ≡ Some (zs ++ z ∷ [])
each_push f [] t zs z e last =
    ap (λ o. both (λ x xs. x ∷ xs) o (Some [])) last ∙ ap (λ ys. Some (ys ++ z ∷ [])) (ap (λ o. option_map_or (λ ys. ys) o []) e)
each_push f (u ∷ ts) t zs z e last = push_both (f u) (each_in f ts) (each_in f (ts ++ t ∷ [])) zs z (λ ys same. each_push f ts t ys z same last) e

pub read_begins : {X Y Z : Type 0} (f : Tree → Option Z) (g : X → Tree) (h : Y → Z) (xs : List X) (done : List Y) → done ≡ [] → ReadSo f g h xs [] xs done
read_begins f g h xs done none = record { whole = refl; read = ap (λ ds. Some (map h ds)) (sym none) }

pub read_next : {X Y Z : Type 0} (f : Tree → Option Z) (g : X → Tree) (h : Y → Z) (xs yielded rest next : List X) (x : X) (done new : List Y) (y : Y)
    → rest ≡ x ∷ next → Some (h y) ≡ f (g x) → new ≡ done ++ y ∷ [] → ReadSo f g h xs yielded rest done → ReadSo f g h xs (yielded ++ x ∷ []) next new
read_next f g h xs yielded rest next x done new y left read pushed so_far = record {
  whole = so_far.whole ∙ ap (λ r. yielded ++ r) left ∙ sym (append_assoc yielded (x ∷ []) next);
  read = ap (each_in f) (map-append g yielded (x ∷ [])) ∙ each_push f (map g yielded) (g x) (map h done) (h y) so_far.read (sym read)
      ∙ ap Some (sym (ap (map h) pushed ∙ map-append h done (y ∷ [])));
}

pub read_length : {X Y Z : Type 0} (f : Tree → Option Z) (g : X → Tree) (h : Y → Z) (xs yielded rest : List X) (done : List Y) → ReadSo f g h xs yielded rest done → length done ≡ length yielded
read_length f g h xs yielded rest done so_far =
    sym (length-map done h) ∙ each_length f (map g yielded) (map h done) (sym so_far.read) ∙ length-map yielded g

pub read_all : {X Y Z : Type 0} (f : Tree → Option Z) (g : X → Tree) (h : Y → Z) (xs yielded rest : List X) (done : List Y) → length rest ≡ 0 → ReadSo f g h xs yielded rest done → each_in f (map g xs) ≡ Some (map h done)
read_all f g h xs yielded rest done none so_far =
    ap (λ ys. each_in f (map g ys)) (so_far.whole ∙ ap (λ r. yielded ++ r) (nil_from_length rest none) ∙ append-nil yielded) ∙ so_far.read

pub first_shapeless : {X Y : Type 0} (g : X → Tree) (h : Y → Form) (xs yielded rest next : List X) (x : X) (done : List Y) (n : ℕ)
    → rest ≡ x ∷ next → None ≡ form_in (g x) → n ≡ length done + 1 → ReadSo form_in g h xs yielded rest done → IsFirstShapeless (map g xs) n
first_shapeless g h xs yielded rest next x done n left unread counted so_far = record {
  earlier = map g yielded;
  term = g x;
  later = map g next;
  whole = ap (map g) (so_far.whole ∙ ap (λ r. yielded ++ r) left) ∙ map-append g yielded (x ∷ next);
  number = let same : length done ≡ length (map g yielded) = read_length form_in g h xs yielded rest done so_far ∙ sym (length-map yielded g) in omega arith;
  none = sym unread;
  forms = map h done;
  shaped = so_far.read;
}
