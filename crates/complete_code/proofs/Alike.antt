-- Two answers that end in the same value.
use Rattle.std.proofs.Common.{◌≡◌, ◌∙◌, sym, ap, ap₂, refl, ℕ, List, ◌++◌, Bool, true, false, Option, Some, None, Result, Ok, Err, IfOk, IfSome, OnOk, is_some}
use Rattle.std.specs.Option.{option_map}

pub ok_alike : {X Y Z E F : Type 0} (f : X → Z) (g : Y → Z) (r : Result X E) (q : Result Y F) (a b : Z) → a ≡ b → IfOk r (λ x. f x ≡ a) → IfOk q (λ y. g y ≡ b)
    → IfOk r (λ x. IfOk q (λ y. f x ≡ g y))
ok_alike f g (Ok x) (Ok y) a b same p q = p ∙ same ∙ sym q
ok_alike f g (Ok x) (Err e) a b same p q = tt
ok_alike f g (Err e) r a b same p q = tt

-- what is appended to one text
pub appended_alike : {X E : Type 0} (r q : Result X E) (old other u v new again : List ℕ) → old ≡ other → u ≡ v → OnOk r (new ≡ old ++ u) → OnOk q (again ≡ other ++ v)
    → OnOk r (OnOk q (new ≡ again))
appended_alike (Ok x) (Ok y) old other u v new again olds added p q = p ∙ ap₂ (λ a b. a ++ b) olds added ∙ sym q
appended_alike (Ok x) (Err e) old other u v new again olds added p q = tt
appended_alike (Err e) q old other u v new again olds added p h = tt

-- what is there where a test of one value accepts it
pub tested_alike : {X Z : Type 0} (f : X → Z) (test : Z → Bool) (o p : Option X) (a b : Z) → a ≡ b → is_some o ≡ test a → IfSome o (λ x. f x ≡ a) → is_some p ≡ test b → IfSome p (λ x. f x ≡ b)
    → option_map f o ≡ option_map f p
tested_alike f test (Some x) (Some y) a b same there is again is_too = ap Some (is ∙ same ∙ sym is_too)
tested_alike f test None None a b same there is again is_too = refl
tested_alike f test (Some x) None a b same there is again is_too = let e : true ≡ false = there ∙ ap test same ∙ sym again in absurd (cc)
tested_alike f test None (Some y) a b same there is again is_too = let e : false ≡ true = there ∙ ap test same ∙ sym again in absurd (cc)
