-- Searches in a list, whose elements are seen by a view.
use Rattle.std.proofs.Common.{◌≡◌, ℕ, ◌+◌, ◌<◌, ◌≤◌, Bool, true, false, ◌||◌, List, [], ◌∷◌, ◌++◌, length, get_or, take, drop, map, flat_map, refl, sym, ap, ◌∙◌, append_assoc}
use Rattle.std.specs.List.{list_any}
use Rattle.std.proofs.lemmas.List.{append-nil, drop_more, drop_all, take_more, map-append}
use Rattle.std.proofs.lemmas.List.Folds.{list_any-append}
use Rattle.def_script.specs.Rules.{any_with_earlier}

pub or_assoc : (a b c : Bool) → (a || (b || c)) ≡ ((a || b) || c)
or_assoc true b c = refl
or_assoc false b c = refl

any_step : {X Y : Type 0} (p : Y → Bool) (f : X → Y) (xs : List X) (i : ℕ) (x : X) (b : Bool) → i < length xs → x ≡ get_or xs i x → p (f x) ≡ b → list_any p (map f (drop i xs)) ≡ (b || list_any p (map f (drop (i + 1) xs)))
any_step p f xs i x b below is passes =
    ap (λ ys. list_any p (map f ys)) (drop_more xs i x below) ∙ ap (λ y. p (f y) || list_any p (map f (drop (i + 1) xs))) (sym is)
    ∙ ap (λ c. c || list_any p (map f (drop (i + 1) xs))) passes

pub any_found : {X Y : Type 0} (p : Y → Bool) (f : X → Y) (xs : List X) (i : ℕ) (x : X) → i < length xs → x ≡ get_or xs i x → p (f x) ≡ true → list_any p (map f xs) ≡ list_any p (map f (drop i xs)) → true ≡ list_any p (map f xs)
any_found p f xs i x below is passes so_far = sym (so_far ∙ any_step p f xs i x true below is passes)

pub any_next : {X Y : Type 0} (p : Y → Bool) (f : X → Y) (xs : List X) (i : ℕ) (x : X) → i < length xs → x ≡ get_or xs i x → p (f x) ≡ false → list_any p (map f xs) ≡ list_any p (map f (drop i xs)) → list_any p (map f xs) ≡ list_any p (map f (drop (i + 1) xs))
any_next p f xs i x below is passes so_far = so_far ∙ any_step p f xs i x false below is passes

pub any_none : {X Y : Type 0} (p : Y → Bool) (f : X → Y) (xs : List X) (i : ℕ) → length xs ≤ i → list_any p (map f xs) ≡ list_any p (map f (drop i xs)) → false ≡ list_any p (map f xs)
any_none p f xs i past so_far = sym (so_far ∙ ap (λ ys. list_any p (map f ys)) (drop_all i xs past))

-- the same, given the elements before
earlier_step : {X Y : Type 0} (p : List Y → Y → Bool) (f : X → Y) (earlier : List Y) (xs : List X) (i : ℕ) (x : X) (b : Bool) → i < length xs → x ≡ get_or xs i x → p (earlier ++ map f (take i xs)) (f x) ≡ b
    → any_with_earlier p (earlier ++ map f (take i xs)) (map f (drop i xs)) ≡ (b || any_with_earlier p (earlier ++ map f (take (i + 1) xs)) (map f (drop (i + 1) xs)))
earlier_step p f earlier xs i x b below is passes =
    ap (λ ys. any_with_earlier p (earlier ++ map f (take i xs)) (map f ys)) (drop_more xs i x below)
    ∙ ap (λ y. p (earlier ++ map f (take i xs)) (f y) || any_with_earlier p ((earlier ++ map f (take i xs)) ++ f y ∷ []) (map f (drop (i + 1) xs))) (sym is)
    ∙ ap (λ c. c || any_with_earlier p ((earlier ++ map f (take i xs)) ++ f x ∷ []) (map f (drop (i + 1) xs))) passes
    ∙ ap (λ ys. b || any_with_earlier p ys (map f (drop (i + 1) xs))) (append_assoc earlier (map f (take i xs)) (f x ∷ []) ∙ ap (λ ys. earlier ++ ys) (sym (map-append f (take i xs) (x ∷ [])) ∙ ap (map f) (ap (λ y. take i xs ++ y ∷ []) is ∙ sym (take_more xs i x below))))

abbrev pub EarlierSo : {X Y : Type 0} (p : List Y → Y → Bool) (f : X → Y) (earlier : List Y) (xs : List X) (i : ℕ) → Type 0
EarlierSo p f earlier xs i = any_with_earlier p earlier (map f xs) ≡ any_with_earlier p (earlier ++ map f (take i xs)) (map f (drop i xs))

pub earlier_begins : {X Y : Type 0} (p : List Y → Y → Bool) (f : X → Y) (earlier : List Y) (xs : List X) → EarlierSo p f earlier xs 0
earlier_begins p f earlier xs = ap (λ ys. any_with_earlier p ys (map f xs)) (sym (append-nil earlier))

pub earlier_found : {X Y : Type 0} (p : List Y → Y → Bool) (f : X → Y) (earlier : List Y) (xs : List X) (i : ℕ) (x : X) → i < length xs → x ≡ get_or xs i x → p (earlier ++ map f (take i xs)) (f x) ≡ true → EarlierSo p f earlier xs i → true ≡ any_with_earlier p earlier (map f xs)
earlier_found p f earlier xs i x below is passes so_far = sym (so_far ∙ earlier_step p f earlier xs i x true below is passes)

pub earlier_next : {X Y : Type 0} (p : List Y → Y → Bool) (f : X → Y) (earlier : List Y) (xs : List X) (i : ℕ) (x : X) → i < length xs → x ≡ get_or xs i x → p (earlier ++ map f (take i xs)) (f x) ≡ false → EarlierSo p f earlier xs i → EarlierSo p f earlier xs (i + 1)
earlier_next p f earlier xs i x below is passes so_far = so_far ∙ earlier_step p f earlier xs i x false below is passes

pub earlier_none : {X Y : Type 0} (p : List Y → Y → Bool) (f : X → Y) (earlier : List Y) (xs : List X) (i : ℕ) → length xs ≤ i → EarlierSo p f earlier xs i → false ≡ any_with_earlier p earlier (map f xs)
earlier_none p f earlier xs i past so_far = sym (so_far ∙ ap (λ ys. any_with_earlier p (earlier ++ map f (take i xs)) (map f ys)) (drop_all i xs past))

-- a search through lists one after the other
pub any_flat : {X Y : Type 0} (p : Y → Bool) (f : X → List Y) (xs : List X) (ys : List Y) → list_any p (flat_map f xs ++ ys) ≡ (list_any (λ x. list_any p (f x)) xs || list_any p ys)
any_flat p f [] ys = refl
any_flat p f (x ∷ xs) ys =
    ap (list_any p) (append_assoc (f x) (flat_map f xs) ys) ∙ list_any-append p (f x) (flat_map f xs ++ ys)
    ∙ ap (λ b. list_any p (f x) || b) (any_flat p f xs ys)
    ∙ or_assoc (list_any p (f x)) (list_any (λ z. list_any p (f z)) xs) (list_any p ys)
