-- Which way a link or its removal goes, and where a living process is.
use Rattle.std.proofs.Common.{◌≡◌, ℕ, true, false, cond, [], ◌∷◌, ap, sym, ◌∙◌, arith}
use Rattle.std.specs.Prelude.{◌==◌}
use Rattle.std.proofs.lemmas.Bool.Decides.{nat_tests}
use Rattle.def_node.specs.Event.{linked, unlinked}
use Rattle.def_node.specs.Node.{World, moved, linked_at, linked_to, link_made, unlinked_from, link_removed, place_of_pid}

same_pid : (n m : ℕ) → n ≡ m → (n == m) ≡ true
same_pid n m e = grind (arith, nat_tests)

other_pid : (n m : ℕ) → (n ≡ m → ⊥) → (n == m) ≡ false
other_pid n m e = grind (arith, nat_tests)

pub link_self : (w : World) (i n m : ℕ) → n ≡ m → moved w [] ≡ link_made w i n m
link_self w i n m e = sym (ap (λ b. cond b (moved w []) (cond (linked_at w i m) (moved w (linked n m ∷ [])) (linked_to w i n m (place_of_pid w m)))) (same_pid n m e))

pub link_known : (w : World) (i n m : ℕ) → (n ≡ m → ⊥) → linked_at w i m ≡ true → moved w (linked n m ∷ []) ≡ link_made w i n m
link_known w i n m e l =
    sym (ap (λ b. cond b (moved w []) (cond (linked_at w i m) (moved w (linked n m ∷ [])) (linked_to w i n m (place_of_pid w m)))) (other_pid n m e)
    ∙ ap (λ b. cond b (moved w (linked n m ∷ [])) (linked_to w i n m (place_of_pid w m))) l)

pub link_new : (w : World) (i n m : ℕ) → (n ≡ m → ⊥) → linked_at w i m ≡ false → linked_to w i n m (place_of_pid w m) ≡ link_made w i n m
link_new w i n m e l =
    sym (ap (λ b. cond b (moved w []) (cond (linked_at w i m) (moved w (linked n m ∷ [])) (linked_to w i n m (place_of_pid w m)))) (other_pid n m e)
    ∙ ap (λ b. cond b (moved w (linked n m ∷ [])) (linked_to w i n m (place_of_pid w m))) l)

pub unlink_self : (w : World) (i n m : ℕ) → n ≡ m → moved w [] ≡ link_removed w i n m
unlink_self w i n m e = sym (ap (λ b. cond b (moved w []) (cond (linked_at w i m) (unlinked_from w i n m (place_of_pid w m)) (moved w (unlinked n m ∷ [])))) (same_pid n m e))

pub unlink_known : (w : World) (i n m : ℕ) → (n ≡ m → ⊥) → linked_at w i m ≡ true → unlinked_from w i n m (place_of_pid w m) ≡ link_removed w i n m
unlink_known w i n m e l =
    sym (ap (λ b. cond b (moved w []) (cond (linked_at w i m) (unlinked_from w i n m (place_of_pid w m)) (moved w (unlinked n m ∷ [])))) (other_pid n m e)
    ∙ ap (λ b. cond b (unlinked_from w i n m (place_of_pid w m)) (moved w (unlinked n m ∷ []))) l)

pub unlink_none : (w : World) (i n m : ℕ) → (n ≡ m → ⊥) → linked_at w i m ≡ false → moved w (unlinked n m ∷ []) ≡ link_removed w i n m
unlink_none w i n m e l =
    sym (ap (λ b. cond b (moved w []) (cond (linked_at w i m) (unlinked_from w i n m (place_of_pid w m)) (moved w (unlinked n m ∷ [])))) (other_pid n m e)
    ∙ ap (λ b. cond b (unlinked_from w i n m (place_of_pid w m)) (moved w (unlinked n m ∷ []))) l)
