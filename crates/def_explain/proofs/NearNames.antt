-- Names that are found to be near are, and worked rows.
use Rattle.std.proofs.Common.{◌≡◌, ◌⊎◌, inl, inr, ◌∙◌, Bool, true, false, ◌||◌, ◌&&◌, if◌then◌else◌, [], ◌∷◌, ◌++◌, drop, codes, refl, sym, ap, arith, append_assoc}
use Rattle.std.specs.Prelude.{◌==◌}
use Rattle.std.specs.Str.{bytes_eq}
use Rattle.std.proofs.lemmas.Slice.Eq.{bytes_eq-Decides}
use Rattle.std.proofs.lemmas.Bool.{eqb-true}
use Rattle.def_term.specs.Names.{Name}
use Rattle.def_explain.specs.NearNames.{IsSlip, after_common, are_swapped, differ_by_one, is_near, NearNamesAreNear}

either : (a b : Bool) → (a || b) ≡ true → (a ≡ true) ⊎ (b ≡ true)
either true b h = inl refl
either false b h = inr h

and-first : (a b : Bool) → (a && b) ≡ true → a ≡ true
and-first true b h = refl
and-first false b h = absurd (cc h)

and-second : (a b : Bool) → (a && b) ≡ true → b ≡ true
and-second true b h = h
and-second false b h = absurd (cc h)

alike : (xs ys : Name) → bytes_eq xs ys ≡ true → xs ≡ ys
alike xs ys h = (bytes_eq-Decides xs ys).0 h

-- ---- what both begin with

abbrev Begins : (s t : Name) → Name × Name → Type 0
Begins s t rest = (before : Name) × (s ≡ before ++ rest.0) × (t ≡ before ++ rest.1)

common : (s t : Name) → Begins s t (after_common s t)
common [] ys = ([], refl, refl)
common (x ∷ xs) [] = ([], refl, refl)
common (x ∷ xs) (y ∷ ys) = go (common xs ys) (x == y) refl
  where
    go : Begins xs ys (after_common xs ys) → (b : Bool) → (x == y) ≡ b → Begins (x ∷ xs) (y ∷ ys) (if b then after_common xs ys else (x ∷ xs, y ∷ ys))
    go rest true e = (x ∷ rest.0, ap (λ zs. x ∷ zs) rest.1, (λ i. sym (eqb-true x y e) i ∷ rest.2 i))
    go rest false e = ([], refl, refl)

-- ---- the place where they differ

abbrev Differ : (s t : Name) → Type 0
Differ s t = (a b after : Name) × (s ≡ a ++ after) × (t ≡ b ++ after) × IsSlip a b

one_more : (xs ys : Name) → drop 1 xs ≡ ys → Differ xs ys
one_more [] ys h = ([], [], ys, h, refl, inr (omega arith, omega arith))
one_more (x ∷ xs) ys h = (x ∷ [], [], ys, ap (λ zs. x ∷ zs) h, refl, inr (omega arith, omega arith))

one_less : (xs ys : Name) → xs ≡ drop 1 ys → Differ xs ys
one_less xs [] h = ([], [], xs, refl, sym h, inr (omega arith, omega arith))
one_less xs (y ∷ ys) h = ([], y ∷ [], xs, refl, ap (λ zs. y ∷ zs) (sym h), inr (omega arith, omega arith))

one_other : (xs ys : Name) → drop 1 xs ≡ drop 1 ys → Differ xs ys
one_other [] ys h = one_less [] ys h
one_other (x ∷ xs) [] h = one_more (x ∷ xs) [] h
one_other (x ∷ xs) (y ∷ ys) h = (x ∷ [], y ∷ [], xs, refl, ap (λ zs. y ∷ zs) (sym h), inr (omega arith, omega arith))

swapped : (xs ys : Name) → are_swapped xs ys ≡ true → Differ xs ys
swapped [] ys h = absurd (cc h)
swapped (a ∷ []) ys h = absurd (cc h)
swapped (a ∷ b ∷ xs) [] h = absurd (cc h)
swapped (a ∷ b ∷ xs) (c ∷ []) h = absurd (cc h)
swapped (a ∷ b ∷ xs) (c ∷ d ∷ ys) h =
    let first : a ≡ d = eqb-true a d (and-first (a == d) ((b == c) && bytes_eq xs ys) h) in
    let others : ((b == c) && bytes_eq xs ys) ≡ true = and-second (a == d) ((b == c) && bytes_eq xs ys) h in
    let second : b ≡ c = eqb-true b c (and-first (b == c) (bytes_eq xs ys) others) in
    let rest : xs ≡ ys = alike xs ys (and-second (b == c) (bytes_eq xs ys) others) in
    (a ∷ b ∷ [], b ∷ a ∷ [], xs, refl, (λ i. sym second i ∷ sym first i ∷ sym rest i), inl (a, b, refl, refl))

differ : (xs ys : Name) → differ_by_one xs ys ≡ true → Differ xs ys
differ xs ys h = first (either (bytes_eq (drop 1 xs) ys) (bytes_eq xs (drop 1 ys) || (bytes_eq (drop 1 xs) (drop 1 ys) || are_swapped xs ys)) h)
  where
    third : (bytes_eq (drop 1 xs) (drop 1 ys) ≡ true) ⊎ (are_swapped xs ys ≡ true) → Differ xs ys
    third (inl k) = one_other xs ys (alike (drop 1 xs) (drop 1 ys) k)
    third (inr k) = swapped xs ys k

    second : (bytes_eq xs (drop 1 ys) ≡ true) ⊎ ((bytes_eq (drop 1 xs) (drop 1 ys) || are_swapped xs ys) ≡ true) → Differ xs ys
    second (inl k) = one_less xs ys (alike xs (drop 1 ys) k)
    second (inr k) = third (either (bytes_eq (drop 1 xs) (drop 1 ys)) (are_swapped xs ys) k)

    first : (bytes_eq (drop 1 xs) ys ≡ true) ⊎ ((bytes_eq xs (drop 1 ys) || (bytes_eq (drop 1 xs) (drop 1 ys) || are_swapped xs ys)) ≡ true) → Differ xs ys
    first (inl k) = one_more xs ys (alike (drop 1 xs) ys k)
    first (inr k) = second (either (bytes_eq xs (drop 1 ys)) (bytes_eq (drop 1 xs) (drop 1 ys) || are_swapped xs ys) k)

pub near_are_near : NearNamesAreNear
near_are_near s t h =
    let begins : Begins s t (after_common s t) = common s t in
    let place : Differ (after_common s t).0 (after_common s t).1 = differ (after_common s t).0 (after_common s t).1 h in (
      begins.0,
      place.0,
      place.1,
      place.2,
      begins.1 ∙ ap (λ zs. begins.0 ++ zs) place.3 ∙ sym (append_assoc begins.0 place.0 place.2),
      begins.2 ∙ ap (λ zs. begins.0 ++ zs) place.4 ∙ sym (append_assoc begins.0 place.1 place.2),
      place.5,
    )

-- ---- rows

pub one_letter_less : is_near (codes "cal") (codes "call") ≡ true
one_letter_less = refl

pub one_letter_more : is_near (codes "sends") (codes "send") ≡ true
one_letter_more = refl

pub another_letter : is_near (codes "silant") (codes "silent") ≡ true
another_letter = refl

pub changed_places : is_near (codes "recieve") (codes "receive") ≡ true
changed_places = refl

pub two_letters : is_near (codes "cals") (codes "call_") ≡ false
two_letters = refl
