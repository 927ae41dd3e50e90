-- What a match leaves, step by step.
use Rattle.std.proofs.Common.{◌≡◌, ◌∙◌, sym, ap, ap₂, ℕ, suc, ◌+◌, ◌<◌, Bool, true, false, List, [], ◌∷◌, ◌++◌, length, get_or, drop, map, Option, Some, None, option_and_then, append_assoc, append-nil, refl, arith}
use Rattle.std.specs.Prelude.{if◌then◌else◌}
use Rattle.std.proofs.lemmas.List.{drop_more}
use Rattle.def_term.specs.Tree.{Tree}
use Rattle.def_renaming.specs.Renaming.{with_term_pairs, with_element_pairs, with_prefix_pairs}
use Rattle.tn_term.proofs.Trees.{seen, here}
use Rattle.tn_renaming.specs.Pairs.{LeavesPairs}

-- ---- whole matches

-- nothing changed
pub leaf : (old : List (ℕ × ℕ)) (gives : Option (List (ℕ × ℕ))) (b : Bool) → gives ≡ (if b then Some old else None) → LeavesPairs old gives b old
leaf old gives b is = record { is = is; more = []; kept = sym (append-nil old) }

-- ---- a match that goes on

-- what is given from here on is what the whole gives, and the pairs are those before and more
pub record IsOn (old : List (ℕ × ℕ)) (whole : Option (List (ℕ × ℕ))) (now : List (ℕ × ℕ)) (left : Option (List (ℕ × ℕ))) : Type 0 where
  pub same : left ≡ whole
  pub more : List (ℕ × ℕ)
  pub kept : now ≡ old ++ more

module _ (old : List (ℕ × ℕ)) (whole : Option (List (ℕ × ℕ))) (now new : List (ℕ × ℕ)) (left : Option (List (ℕ × ℕ))) (f : List (ℕ × ℕ) → Option (List (ℕ × ℕ))) (given : Option (List (ℕ × ℕ))) (b : Bool) where
  more_kept : LeavesPairs now given b new → (on : IsOn old whole now left) → (more : List (ℕ × ℕ)) × (new ≡ old ++ more)
  more_kept leaves on = (on.more ++ leaves.more, leaves.kept ∙ ap (λ xs. xs ++ leaves.more) on.kept ∙ append_assoc old on.more leaves.more)

  pub goes_on : b ≡ true → left ≡ option_and_then f given → LeavesPairs now given b new → IsOn old whole now left → IsOn old whole new (f new)
  goes_on found is leaves on =
      let more = more_kept leaves on in
      let gives : given ≡ Some new = leaves.is ∙ ap (λ c. if c then Some new else None) found in
      record { same = sym (ap (option_and_then f) gives) ∙ sym is ∙ on.same; more = more.0; kept = more.1 }

  pub stops : b ≡ false → left ≡ option_and_then f given → LeavesPairs now given b new → IsOn old whole now left → LeavesPairs old whole false new
  stops missed is leaves on =
      let more = more_kept leaves on in
      let gives : given ≡ None = leaves.is ∙ ap (λ c. if c then Some new else None) missed in
      record { is = sym on.same ∙ is ∙ ap (option_and_then f) gives; more = more.0; kept = more.1 }

none_after : {X Y : Type 0} (f : X → Option Y) (o : Option X) → ((x : X) → f x ≡ None) → option_and_then f o ≡ None
none_after f None all = refl
none_after f (Some x) all = all x

-- ---- terms

pub all_here : {X Y : Type 0} (f : X → Tree) (h : Y → Tree) (xs : List X) (ys : List Y) (i : ℕ) (x : X) (y : Y) (ps : List (ℕ × ℕ))
    → i < length xs → i < length ys → x ≡ get_or xs i x → y ≡ get_or ys i y
    → with_element_pairs ps (seen f (drop i xs)) (seen h (drop i ys)) ≡ option_and_then (λ qs. with_element_pairs qs (seen f (drop (i + 1) xs)) (seen h (drop (i + 1) ys))) (with_term_pairs ps (f x) (h y))
all_here f h xs ys i x y ps p q is js = ap₂ (with_element_pairs ps) (here f xs i x p is) (here h ys i y q js)

pub lengths_differ : {X Y : Type 0} (f : X → Tree) (h : Y → Tree) (xs : List X) (ys : List Y) (ps : List (ℕ × ℕ)) → (length xs ≡ length ys → ⊥) → with_element_pairs ps (seen f xs) (seen h ys) ≡ None
lengths_differ f h [] [] ps never = absurd (never refl)
lengths_differ f h [] (y ∷ ys) ps never = refl
lengths_differ f h (x ∷ xs) [] ps never = refl
lengths_differ f h (x ∷ xs) (y ∷ ys) ps never =
    none_after (λ qs. with_element_pairs qs (seen f xs) (seen h ys)) (with_term_pairs ps (f x) (h y)) (λ qs. lengths_differ f h xs ys qs (λ e. never (ap suc e)))

-- ---- messages

list_here : {X : Type 0} (f : X → Tree) (xs : List X) (i : ℕ) (x : X) → i < length xs → x ≡ get_or xs i x → map f (drop i xs) ≡ f x ∷ map f (drop (i + 1) xs)
list_here f xs i x below is = ap (map f) (drop_more xs i x below) ∙ ap (λ z. f z ∷ map f (drop (i + 1) xs)) (sym is)

pub begun_here : {X Y : Type 0} (f : X → Tree) (h : Y → Tree) (xs : List X) (ys : List Y) (i : ℕ) (x : X) (y : Y) (ps : List (ℕ × ℕ))
    → i < length xs → i < length ys → x ≡ get_or xs i x → y ≡ get_or ys i y
    → with_prefix_pairs ps (map f (drop i xs)) (map h (drop i ys)) ≡ option_and_then (λ qs. with_prefix_pairs qs (map f (drop (i + 1) xs)) (map h (drop (i + 1) ys))) (with_term_pairs ps (f x) (h y))
begun_here f h xs ys i x y ps p q is js = ap₂ (with_prefix_pairs ps) (list_here f xs i x p is) (list_here h ys i y q js)

pub too_short : {X Y : Type 0} (f : X → Tree) (h : Y → Tree) (xs : List X) (ys : List Y) (ps : List (ℕ × ℕ)) → length ys < length xs → with_prefix_pairs ps (map f xs) (map h ys) ≡ None
too_short f h [] ys ps below = absurd (omega arith)
too_short f h (x ∷ xs) [] ps below = refl
too_short f h (x ∷ xs) (y ∷ ys) ps below =
    none_after (λ qs. with_prefix_pairs qs (map f xs) (map h ys)) (with_term_pairs ps (f x) (h y)) (λ qs. too_short f h xs ys qs (omega arith))
