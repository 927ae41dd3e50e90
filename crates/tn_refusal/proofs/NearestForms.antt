-- A search through forms for the first function that passes a test.
use Rattle.std.proofs.Common.{◌≡◌, ◌∙◌, ℕ, ◌+◌, ◌<◌, ◌≤◌, Bool, true, false, if◌then◌else◌, List, [], ◌∷◌, ◌++◌, length, get_or, drop, map, Option, Some, None, refl, sym, ap}
use Rattle.std.specs.Option.{option_or}
use Rattle.std.proofs.lemmas.List.{drop_more, drop_all}
use Rattle.def_term.specs.Names.{Mfa}
use Rattle.def_script.specs.Exports.{visible}
use Rattle.def_script.specs.Program.{Form, Function, mfa_of}
use Rattle.def_script.specs.Rules.{form_functions, function_of_form}
use Rattle.def_explain.specs.NearestFunctions.{first_function}

first_append : (test : Mfa → Bool) (xs ys : List (Mfa × Bool)) → first_function test (xs ++ ys) ≡ option_or (first_function test xs) (first_function test ys)
first_append test [] ys = refl
first_append test (x ∷ xs) ys = go (test x.0) (first_append test xs ys)
  where
    go : (b : Bool) → first_function test (xs ++ ys) ≡ option_or (first_function test xs) (first_function test ys)
        → (if b then Some x.0 else first_function test (xs ++ ys)) ≡ option_or (if b then Some x.0 else first_function test xs) (first_function test ys)
    go true same = refl
    go false same = same

visible_append : (xs ys : List Function) → visible (xs ++ ys) ≡ visible xs ++ visible ys
visible_append [] ys = refl
visible_append (x ∷ xs) ys = ap (λ rest. (mfa_of x, x.exported) ∷ rest) (visible_append xs ys)

-- the first function of these forms that passes
abbrev pub first_declared : (Mfa → Bool) → List Form → Option Mfa
first_declared test fs = first_function test (visible (form_functions fs))

module _ {X : Type 0} (test : Mfa → Bool) (f : X → Form) (xs : List X) where
  -- none of so many forms at the front declares one that passes
  abbrev pub IsFurther : ℕ → Type 0
  IsFurther i = first_declared test (map f xs) ≡ first_declared test (map f (drop i xs))

  further : (i : ℕ) (x : X) → i < length xs → x ≡ get_or xs i x
      → first_declared test (map f (drop i xs)) ≡ option_or (first_function test (visible (function_of_form (f x)))) (first_declared test (map f (drop (i + 1) xs)))
  further i x below is =
      let later : List Form = map f (drop (i + 1) xs) in
      ap (λ ys. first_declared test (map f ys)) (drop_more xs i x below)
      ∙ ap (λ y. first_declared test (f y ∷ later)) (sym is)
      ∙ ap (first_function test) (visible_append (function_of_form (f x)) (form_functions later))
      ∙ first_append test (visible (function_of_form (f x))) (visible (form_functions later))

  pub alike_found : (i : ℕ) (x : X) (found : Mfa) → i < length xs → x ≡ get_or xs i x → Some found ≡ first_function test (visible (function_of_form (f x))) → IsFurther i
      → Some found ≡ first_declared test (map f xs)
  alike_found i x found below is here so_far = sym (so_far ∙ further i x below is ∙ ap (λ o. option_or o (first_declared test (map f (drop (i + 1) xs)))) (sym here))

  pub alike_later : (i : ℕ) (x : X) → i < length xs → x ≡ get_or xs i x → None ≡ first_function test (visible (function_of_form (f x))) → IsFurther i → IsFurther (i + 1)
  alike_later i x below is here so_far = so_far ∙ further i x below is ∙ ap (λ o. option_or o (first_declared test (map f (drop (i + 1) xs)))) (sym here)

  pub alike_nowhere : (i : ℕ) → length xs ≤ i → IsFurther i → None ≡ first_declared test (map f xs)
  alike_nowhere i past so_far = sym (so_far ∙ ap (λ ys. first_declared test (map f ys)) (drop_all i xs past))
