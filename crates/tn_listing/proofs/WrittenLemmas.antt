-- Lemmas on numbers with one space between each two.
use Rattle.std.proofs.Common.{◌≡◌, ℕ, ◌+◌, ◌<◌, List, [], ◌∷◌, ◌++◌, length, map, decimal, take, get_or, append_assoc, append-nil, subst, ap, sym, ◌∙◌, refl, rules, arith}
use Rattle.std.specs.List.{join_with_byte}
use Rattle.std.proofs.lemmas.List.{take_more, map-append, length-map, length-take}

-- one more after some
join-push : (c : ℕ) (xs : List (List ℕ)) (x : List ℕ) → 0 < length xs → join_with_byte c (xs ++ x ∷ []) ≡ join_with_byte c xs ++ (c ∷ x)
join-push c [] x some = absurd (omega arith)
join-push c (y ∷ []) x some = refl
join-push c (y ∷ z ∷ ys) x some =
    ap (λ l. y ++ (c ∷ l)) (join-push c (z ∷ ys) x (search rules)) ∙ sym (append_assoc y (c ∷ join_with_byte c (z ∷ ys)) (c ∷ x))

-- the first i numbers, and one more
pub first_number : (before after : List ℕ) (picks : List ℕ) (i : ℕ) → i ≡ 0 → i < length picks → after ≡ (before ++ join_with_byte 32 (map decimal (take i picks))) ++ decimal (get_or picks i 0)
    → after ≡ before ++ join_with_byte 32 (map decimal (take (i + 1) picks))
first_number before after [] i zeroth some e = absurd (omega arith)
first_number before after (p ∷ picks) i zeroth some e =
    let P : ℕ → Type 0 = λ k. (after ≡ (before ++ join_with_byte 32 (map decimal (take k (p ∷ picks)))) ++ decimal (get_or (p ∷ picks) k 0)) → after ≡ before ++ join_with_byte 32 (map decimal (take (k + 1) (p ∷ picks))) in
    subst P (sym zeroth) (λ h. h ∙ ap (λ l. l ++ decimal p) (append-nil before)) e

pub next_number : (before after : List ℕ) (picks : List ℕ) (i : ℕ) → 0 < i → i < length picks
    → after ≡ ((before ++ join_with_byte 32 (map decimal (take i picks))) ++ (32 ∷ [])) ++ decimal (get_or picks i 0)
    → after ≡ before ++ join_with_byte 32 (map decimal (take (i + 1) picks))
next_number before after picks i some inside e =
    let front = map decimal (take i picks) in
    let more : map decimal (take (i + 1) picks) ≡ front ++ decimal (get_or picks i 0) ∷ [] = ap (map decimal) (take_more picks i 0 inside) ∙ map-append decimal (take i picks) (get_or picks i 0 ∷ []) in
    let size : 0 < length front = simp (length-map, length-take) (omega arith) in
    let joined : join_with_byte 32 (map decimal (take (i + 1) picks)) ≡ join_with_byte 32 front ++ (32 ∷ decimal (get_or picks i 0)) = ap (join_with_byte 32) more ∙ join-push 32 front (decimal (get_or picks i 0)) size in
    e ∙ append_assoc (before ++ join_with_byte 32 front) (32 ∷ []) (decimal (get_or picks i 0)) ∙ append_assoc before (join_with_byte 32 front) (32 ∷ decimal (get_or picks i 0)) ∙ ap (λ l. before ++ l) (sym joined)

-- the same, from what each step of the code did
pub first_step : (before middle bytes after picks : List ℕ) (i : ℕ) → i ≡ 0 → i < length picks → middle ≡ before ++ join_with_byte 32 (map decimal (take i picks))
    → bytes ≡ decimal (get_or picks i 0) → after ≡ middle ++ bytes → after ≡ before ++ join_with_byte 32 (map decimal (take (i + 1) picks))
first_step before middle bytes after picks i zeroth inside m b e =
    first_number before after picks i zeroth inside (e ∙ ap (λ l. l ++ bytes) m ∙ ap (λ l. (before ++ join_with_byte 32 (map decimal (take i picks))) ++ l) b)

pub next_step : (before middle spaced bytes after picks : List ℕ) (i : ℕ) → 0 < i → i < length picks → middle ≡ before ++ join_with_byte 32 (map decimal (take i picks))
    → spaced ≡ middle ++ 32 ∷ [] → bytes ≡ decimal (get_or picks i 0) → after ≡ spaced ++ bytes → after ≡ before ++ join_with_byte 32 (map decimal (take (i + 1) picks))
next_step before middle spaced bytes after picks i some inside m s b e =
    next_number before after picks i some inside
    (e ∙ ap (λ l. l ++ bytes) (s ∙ ap (λ l. l ++ 32 ∷ []) m) ∙ ap (λ l. ((before ++ join_with_byte 32 (map decimal (take i picks))) ++ 32 ∷ []) ++ l) b)
