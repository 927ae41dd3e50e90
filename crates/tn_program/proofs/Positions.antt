-- The position of the first element that passes, given those before it, of elements that are seen by a view.
use Rattle.std.proofs.Common.{◌≡◌, ℕ, suc, ◌+◌, ◌-◌, ◌^◌, min, ◌<◌, ◌≤◌, nat_le, nat_lt, cond, Bool, true, false, List, [], ◌∷◌, ◌++◌, length, get_or, take, drop, map, Option, Some, None, Result, Ok, Err, IfOk, refl, sym, ap, ◌∙◌, append_assoc, arith}
use Rattle.std.proofs.lemmas.List.{append-nil, drop_more, drop_all, take_more, map-append, length-append, length-map, drop-map, take-map}
use Rattle.std.proofs.lemmas.Bool.Decides.{nat_tests}
use Rattle.def_script.specs.Program.{Form}
use Rattle.def_script.specs.Rules.{Rule}
use Rattle.def_refusal.specs.Items.{position_with_earlier, breaking_item, breaking_item_first, breaking_item_in}

-- none of the elements before this one passes
abbrev pub PositionSo : {X Y : Type 0} (p : List Y → Y → Bool) (f : X → Y) (earlier : List Y) (xs : List X) (i : ℕ) → Type 0
PositionSo p f earlier xs i = position_with_earlier p earlier 1 (map f xs) ≡ position_with_earlier p (earlier ++ map f (take i xs)) (i + 1) (map f (drop i xs))

position_step : {X Y : Type 0} (p : List Y → Y → Bool) (f : X → Y) (earlier : List Y) (xs : List X) (i : ℕ) (x : X) (b : Bool) → i < length xs → x ≡ get_or xs i x → p (earlier ++ map f (take i xs)) (f x) ≡ b
    → position_with_earlier p (earlier ++ map f (take i xs)) (i + 1) (map f (drop i xs)) ≡ cond b (Some (i + 1)) (position_with_earlier p (earlier ++ map f (take (i + 1) xs)) (i + 1 + 1) (map f (drop (i + 1) xs)))
position_step p f earlier xs i x b below is passes =
    let later : suc (i + 1) ≡ i + 1 + 1 = omega arith in
    ap (λ ys. position_with_earlier p (earlier ++ map f (take i xs)) (i + 1) (map f ys)) (drop_more xs i x below)
    ∙ ap (λ y. cond (p (earlier ++ map f (take i xs)) (f y)) (Some (i + 1)) (position_with_earlier p ((earlier ++ map f (take i xs)) ++ f y ∷ []) (suc (i + 1)) (map f (drop (i + 1) xs)))) (sym is)
    ∙ ap (λ c. cond c (Some (i + 1)) (position_with_earlier p ((earlier ++ map f (take i xs)) ++ f x ∷ []) (suc (i + 1)) (map f (drop (i + 1) xs)))) passes
    ∙ ap (λ n. cond b (Some (i + 1)) (position_with_earlier p ((earlier ++ map f (take i xs)) ++ f x ∷ []) n (map f (drop (i + 1) xs)))) later
    ∙ ap (λ ys. cond b (Some (i + 1)) (position_with_earlier p ys (i + 1 + 1) (map f (drop (i + 1) xs))))
    (append_assoc earlier (map f (take i xs)) (f x ∷ []) ∙ ap (λ ys. earlier ++ ys) (sym (map-append f (take i xs) (x ∷ [])) ∙ ap (map f) (ap (λ y. take i xs ++ y ∷ []) is ∙ sym (take_more xs i x below))))

pub position_begins : {X Y : Type 0} (p : List Y → Y → Bool) (f : X → Y) (earlier : List Y) (xs : List X) → PositionSo p f earlier xs 0
position_begins p f earlier xs = ap (λ ys. position_with_earlier p ys 1 (map f xs)) (sym (append-nil earlier))

pub position_found : {X Y : Type 0} (p : List Y → Y → Bool) (f : X → Y) (earlier : List Y) (xs : List X) (i : ℕ) (x : X) → i < length xs → x ≡ get_or xs i x → p (earlier ++ map f (take i xs)) (f x) ≡ true → PositionSo p f earlier xs i → Some (i + 1) ≡ position_with_earlier p earlier 1 (map f xs)
position_found p f earlier xs i x below is passes so_far = sym (so_far ∙ position_step p f earlier xs i x true below is passes)

pub position_next : {X Y : Type 0} (p : List Y → Y → Bool) (f : X → Y) (earlier : List Y) (xs : List X) (i : ℕ) (x : X) → i < length xs → x ≡ get_or xs i x → p (earlier ++ map f (take i xs)) (f x) ≡ false → PositionSo p f earlier xs i → PositionSo p f earlier xs (i + 1)
position_next p f earlier xs i x below is passes so_far = so_far ∙ position_step p f earlier xs i x false below is passes

pub position_none : {X Y : Type 0} (p : List Y → Y → Bool) (f : X → Y) (earlier : List Y) (xs : List X) (i : ℕ) → length xs ≤ i → PositionSo p f earlier xs i → None ≡ position_with_earlier p earlier 1 (map f xs)
position_none p f earlier xs i past so_far = sym (so_far ∙ ap (λ ys. position_with_earlier p (earlier ++ map f (take i xs)) (i + 1) (map f ys)) (drop_all i xs past))

-- no element passes a test that none passes
pub nowhere : {X : Type 0} (earlier xs : List X) (n : ℕ) → position_with_earlier (λ before x. false) earlier n xs ≡ None
nowhere earlier [] n = refl
nowhere earlier (x ∷ xs) n = nowhere (earlier ++ x ∷ []) xs (suc n)

-- ---- the first element past a limit

late_here : (limit n k m : ℕ) (o : Option ℕ) → n ≡ k + 1 → k ≤ limit → nat_le limit k ≡ true → Some n ≡ cond (nat_lt limit (k + suc m)) (Some (limit + 1)) o
late_here limit n k m o e few is =
    let past : nat_lt limit (k + suc m) ≡ true = grind (arith, nat_tests, is) in
    let same : n ≡ limit + 1 = grind (arith, nat_tests, is, e, few) in
    ap Some same ∙ sym (ap (λ b. cond b (Some (limit + 1)) o) past)

not_late : (limit k : ℕ) (o p : Option ℕ) → k ≤ limit → p ≡ cond (nat_lt limit (k + 0)) o p
not_late limit k o p few = let within : nat_lt limit (k + 0) ≡ false = grind (arith, nat_tests, few) in sym (ap (λ b. cond b o p) within)

pub late_at : {X : Type 0} (limit : ℕ) (earlier xs : List X) (n : ℕ) → n ≡ length earlier + 1 → length earlier ≤ limit
    → position_with_earlier (λ before x. nat_le limit (length before)) earlier n xs ≡ cond (nat_lt limit (length earlier + length xs)) (Some (limit + 1)) None
late_at limit earlier [] n e few = not_late limit (length earlier) (Some (limit + 1)) None few
late_at limit earlier (x ∷ xs) n e few =
    elim (nat_le limit (length earlier)) as (λ b. nat_le limit (length earlier) ≡ b → cond b (Some n) (position_with_earlier (λ before y. nat_le limit (length before)) (earlier ++ x ∷ []) (suc n) xs) ≡ cond (nat_lt limit (length earlier + suc (length xs))) (Some (limit + 1)) None) [
      | true ↦ λ is. late_here limit n (length earlier) (length xs) None e few is
      | false ↦ λ is.
          let more : length (earlier ++ x ∷ []) ≡ length earlier + 1 = length-append earlier (x ∷ []) in
          let room : length (earlier ++ x ∷ []) ≤ limit = grind (arith, nat_tests, is, more, few) in
          let all : length (earlier ++ x ∷ []) + length xs ≡ length earlier + suc (length xs) = omega (arith, more) in
          late_at limit (earlier ++ x ∷ []) xs (suc n) (omega (arith, more, e)) room ∙ ap (λ k. cond (nat_lt limit k) (Some (limit + 1)) None) all
    ] refl

pub late_is : {X : Type 0} (limit : ℕ) (xs : List X) (b : Bool) → b ≡ nat_lt limit (length xs) → cond b (Some (limit + 1)) None ≡ position_with_earlier (λ before x. nat_le limit (length before)) [] 1 xs
late_is limit xs b e =
    let all : 0 + length xs ≡ length xs = omega arith in
    sym (late_at limit [] xs 1 refl (omega arith) ∙ ap (λ k. cond (nat_lt limit k) (Some (limit + 1)) None) all ∙ ap (λ c. cond c (Some (limit + 1)) None) (sym e))

-- a number in the control list
pub number_is : (n k total number : ℕ) → total ≡ min n (2 ^ 64 - 1) → number ≡ min (total + k) (2 ^ 64 - 1) → number ≡ min (n + k) (2 ^ 64 - 1)
number_is n k total number e f = omega (arith, e, f)

-- ---- of form n

pub if_ok : {X E : Type 0} (P Q : X → Type 0) (r : Result X E) → ((x : X) → P x → Q x) → IfOk r P → IfOk r Q
if_ok P Q (Ok x) f p = f x p
if_ok P Q (Err e) f p = tt

pub of_form : {X : Type 0} (f : X → Form) (xs : List X) (n i : ℕ) (x : X) (r : Rule) → i ≡ n - 1 → i < length xs → x ≡ get_or xs i x → breaking_item (map f xs) (map f (take i xs)) (f x) r ≡ breaking_item_in (map f xs) n r
of_form f xs n i x r e below is =
    sym (ap (λ m. breaking_item_first (map f xs) (take m (map f xs)) (drop m (map f xs)) r) (sym e)
    ∙ ap (λ ys. breaking_item_first (map f xs) (take i (map f xs)) ys r) (drop-map f i xs ∙ ap (map f) (drop_more xs i x below))
    ∙ ap (λ ys. breaking_item (map f xs) ys (f (get_or xs i x)) r) (take-map f i xs)
    ∙ ap (λ y. breaking_item (map f xs) (map f (take i xs)) (f y) r) (sym is))

pub of_no_form : {X : Type 0} (f : X → Form) (xs : List X) (n i : ℕ) (r : Rule) → i ≡ n - 1 → length xs ≤ i → None ≡ breaking_item_in (map f xs) n r
of_no_form f xs n i r e past =
    sym (ap (λ m. breaking_item_first (map f xs) (take m (map f xs)) (drop m (map f xs)) r) (sym e)
    ∙ ap (λ ys. breaking_item_first (map f xs) (take i (map f xs)) ys r) (drop_all i (map f xs) (let same = length-map xs f in omega (arith, same, past))))
