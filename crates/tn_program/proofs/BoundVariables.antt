-- Variables that are not bound, in terms and in steps.
use Rattle.std.proofs.Common.{◌≡◌, ℕ, ◌+◌, ◌<◌, Bool, true, false, ◌||◌, ◌&&◌, not, cond, List, [], ◌∷◌, ◌++◌, length, get_or, take, map, Option, Some, is_some, option_to_list, refl, sym, ap, ap₂, ◌∙◌}
use Rattle.std.specs.BTreeMap.{BTreeMap}
use Rattle.std.specs.BTreeMap as tree
use Rattle.std.specs.Map.{lookup}
use Rattle.std.specs.Ordering.{is_eq, nat_cmp}
use Rattle.std.specs.Cmp.Lexicographic.{slice_cmp, bytes_decides}
use Rattle.std.specs.Str.{bytes_eq}
use Rattle.std.proofs.lemmas.Map.Text.{is_eq-slice_cmp, btree_map_updates_str}
use Rattle.std.proofs.lemmas.List.{append-nil}
use denote.Ref.{Bor}
use Rattle.std.proofs.lemmas.List.{map_more, flat_map_more}
use Rattle.def_term.specs.Tree.{Tree, int, atom, pid, tuple, list, Trees, none, more, of_elements}
use Rattle.def_term.specs.Text.{is_among}
use Rattle.def_term.specs.Names.{Name}
use Rattle.def_script.specs.Program.{Step, is_variable}
use Rattle.def_script.specs.Shapes.{self_name}
use Rattle.tn_program.proofs.Any.{or_assoc}
use Rattle.tn_program.specs.Variables.{names_in, HaveSame, AddsNames}
use Rattle.def_script.specs.Rules.{has_other_variable, have_other_variable, any_has_other, bound_before, target_of_step}

pub all_of : (bound : List Name) (ts : List Tree) → have_other_variable bound (of_elements ts) ≡ any_has_other bound ts
all_of bound [] = refl
all_of bound (t ∷ ts) = ap (λ b. has_other_variable bound t || b) (all_of bound ts)

-- one more step, whose target is bound after it
pub bound_more : {X : Type 0} (f : X → Step) (params : List Name) (xs : List X) (i : ℕ) (x : X) (now new : List Name) → i < length xs → x ≡ get_or xs i x
    → now ≡ bound_before params (map f (take i xs)) → new ≡ now ++ option_to_list (target_of_step (f x)) → new ≡ bound_before params (map f (take (i + 1) xs))
bound_more f params xs i x now new below is so_far bound =
    bound ∙ ap (λ ys. ys ++ option_to_list (target_of_step (f x))) so_far
    ∙ flat_map_more (λ s. option_to_list (target_of_step s)) (self_name ∷ params) (map f (take i xs)) (f x)
    ∙ ap (bound_before params) (ap (λ y. map f (take i xs) ++ f y ∷ []) is ∙ sym (map_more f xs i x below))

-- ---- names in a map

some_first : {X : Type 0} (b c : Bool) (v : X) (o : Option X) (r : Bool) → b ≡ c → is_some o ≡ r → is_some (cond b (Some v) o) ≡ (c || r)
some_first true c v o r e h = ap (λ x. x || r) e
some_first false c v o r e h = h ∙ ap (λ x. x || r) e

known_from : {X : Type 0} (es : List (Bor Name × X)) (q : Name) → is_some (lookup (tree.is_at (λ k. slice_cmp nat_cmp q k.now)) es) ≡ is_among (map (λ e. e.0.now) es) q
known_from [] q = refl
known_from (e ∷ es) q = some_first (is_eq (slice_cmp nat_cmp q e.0.now)) (bytes_eq q e.0.now) e.1 (lookup (tree.is_at (λ k. slice_cmp nat_cmp q k.now)) es) (is_among (map (λ d. d.0.now) es) q) (is_eq-slice_cmp q e.0.now) (known_from es q)

-- a look-up finds the names of the map
pub known_among : {X : Type 0} (m : BTreeMap (Bor Name) X) (q : Name) → is_some (tree.get_by (λ k. slice_cmp nat_cmp q k.now) m) ≡ is_among (names_in m) q
known_among m q = known_from m.entries q

or_true : (a : Bool) → (a || true) ≡ true
or_true true = refl
or_true false = refl

or_false : (a : Bool) → (a || false) ≡ a
or_false true = refl
or_false false = refl

some_last : {X : Type 0} (b c : Bool) (v : X) (o : Option X) (r : Bool) → b ≡ c → is_some o ≡ r → is_some (cond b (Some v) o) ≡ (r || c)
some_last true c v o r e h = sym (or_true r) ∙ ap (λ x. r || x) e
some_last false c v o r e h = h ∙ sym (or_false r) ∙ ap (λ x. r || x) e

both_tell : (x y : Bool) (P : Type 0) → (x ≡ true → P) → (P → x ≡ true) → (y ≡ true → P) → (P → y ≡ true) → x ≡ y
both_tell true y P a b c d = sym (d (a refl))
both_tell false true P a b c d = b (c refl)
both_tell false false P a b c d = refl

bytes_eq-sym : (a b : List ℕ) → bytes_eq a b ≡ bytes_eq b a
bytes_eq-sym a b = both_tell (bytes_eq a b) (bytes_eq b a) (a ≡ b) (bytes_decides a b).0 (bytes_decides a b).1 (λ e. sym ((bytes_decides b a).0 e)) (λ e. (bytes_decides b a).1 (sym e))

among_more : (xs : List Name) (w q : Name) → is_among (xs ++ w ∷ []) q ≡ (is_among xs q || bytes_eq q w)
among_more [] w q = or_false (bytes_eq q w)
among_more (x ∷ xs) w q = ap (λ b. bytes_eq q x || b) (among_more xs w q) ∙ or_assoc (bytes_eq q x) (is_among xs q) (bytes_eq q w)

-- one more name in the map
pub adds_one : {X : Type 0} (m n : BTreeMap (Bor Name) X) (w : Name) (v : X) → tree.UpdatesBy (λ x y. slice_cmp nat_cmp x.now y.now) (λ k. slice_cmp nat_cmp w k.now) m n (Some v) → AddsNames m n (w ∷ [])
adds_one m n w v updates xs same q =
    sym (known_among n q) ∙ ap is_some (btree_map_updates_str w m n (Some v) updates q)
    ∙ some_last (bytes_eq w q) (bytes_eq q w) v (tree.get_by (λ k. slice_cmp nat_cmp q k.now) m) (is_among xs q) (bytes_eq-sym w q) (known_among m q ∙ same q)
    ∙ sym (among_more xs w q)

pub adds_none : {X : Type 0} (m : BTreeMap (Bor Name) X) → AddsNames m m []
adds_none m xs same q = same q ∙ ap (λ zs. is_among zs q) (sym (append-nil xs))

-- ---- lists of names that have the same

mutual
  other_same : (xs ys : List Name) → HaveSame xs ys → (t : Tree) → has_other_variable xs t ≡ has_other_variable ys t
  other_same xs ys same (int n) = refl
  other_same xs ys same (atom s) = ap (λ b. is_variable s && not b) (same s)
  other_same xs ys same (pid n) = refl
  other_same xs ys same (tuple ts) = others_same xs ys same ts
  other_same xs ys same (list ts) = others_same xs ys same ts

  others_same : (xs ys : List Name) → HaveSame xs ys → (ts : Trees) → have_other_variable xs ts ≡ have_other_variable ys ts
  others_same xs ys same none = refl
  others_same xs ys same (more t ts) = ap₂ (λ a b. a || b) (other_same xs ys same t) (others_same xs ys same ts)

pub any_same : (xs ys : List Name) → HaveSame xs ys → (ts : List Tree) → any_has_other xs ts ≡ any_has_other ys ts
any_same xs ys same [] = refl
any_same xs ys same (t ∷ ts) = ap₂ (λ a b. a || b) (other_same xs ys same t) (any_same xs ys same ts)

pub same_as : (xs ys zs : List Name) → ys ≡ zs → HaveSame xs ys → HaveSame xs zs
same_as xs ys zs e same q = same q ∙ ap (λ ns. is_among ns q) e
