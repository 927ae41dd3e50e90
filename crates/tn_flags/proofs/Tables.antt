-- What is found in a table, at a place in it and past its end.
use Rattle.std.proofs.Common.{◌≡◌, ◌<◌, ◌≤◌, ◌∙◌, ℕ, List, map, length, get_or, unwrap_or, refl, sym, ap}
use Rattle.std.proofs.lemmas.Option.{slice_get-map, slice_get_past, slice_get_read}
use Rattle.std.specs.Prelude.{slice_get}
use Rattle.std.specs.Option.{option_map}

pub past_is : {X Y : Type 0} (f : X → Y) (xs : List X) (i k : ℕ) (d e : Y) → length xs ≤ i → i ≡ k → e ≡ d → e ≡ unwrap_or (slice_get (map f xs) k) d
past_is f xs i k d e h is same =
    same ∙ sym (ap (λ n. unwrap_or (slice_get (map f xs) n) d) (sym is) ∙ ap (λ o. unwrap_or o d) (slice_get-map f xs i) ∙ ap (λ o. unwrap_or (option_map f o) d) (slice_get_past xs i h))

pub here_is : {X Y : Type 0} (f : X → Y) (xs : List X) (i k : ℕ) (x : X) (d : Y) → i < length xs → x ≡ get_or xs i x → i ≡ k → f x ≡ unwrap_or (slice_get (map f xs) k) d
here_is f xs i k x d below is same =
    sym (ap (λ o. unwrap_or o d) (slice_get-map f xs i ∙ ap (option_map f) (slice_get_read xs (length xs) i x refl below is))) ∙ ap (λ n. unwrap_or (slice_get (map f xs) n) d) same
