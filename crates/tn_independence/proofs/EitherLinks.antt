-- A list has one of two things where it has the first or the second.
use Rattle.std.proofs.Common.{◌≡◌, ◌∙◌, Bool, true, false, ◌||◌, List, [], ◌∷◌, refl, ap}
use Rattle.std.specs.List.{list_any}
use Rattle.def_script.specs.Program.{Function}
use Rattle.def_independence.specs.Alone.{is_link, has_link, have_link, is_unlink, has_unlink, have_unlink}
use Rattle.tn_independence.specs.Links.{has_changes}

regroup : (a b c d : Bool) → ((a || b) || (c || d)) ≡ ((a || c) || (b || d))
regroup true b c d = refl
regroup false true true d = refl
regroup false true false d = refl
regroup false false true d = refl
regroup false false false d = refl

any_or : {X : Type 0} (f g : X → Bool) (xs : List X) → list_any (λ x. f x || g x) xs ≡ (list_any f xs || list_any g xs)
any_or f g [] = refl
any_or f g (x ∷ xs) = ap (λ b. (f x || g x) || b) (any_or f g xs) ∙ regroup (f x) (g x) (list_any f xs) (list_any g xs)

both_kinds : (k : Function) → has_changes k ≡ (has_link k || has_unlink k)
both_kinds k = any_or is_link is_unlink k.steps

pub all_kinds : (ks : List Function) → list_any has_changes ks ≡ (have_link ks || have_unlink ks)
all_kinds [] = refl
all_kinds (k ∷ ks) =
    ap (λ b. b || list_any has_changes ks) (both_kinds k)
    ∙ ap (λ b. (has_link k || has_unlink k) || b) (all_kinds ks)
    ∙ regroup (has_link k) (has_unlink k) (have_link ks) (have_unlink ks)
