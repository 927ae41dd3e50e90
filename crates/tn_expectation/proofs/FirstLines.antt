-- The first of some lines that a text has or hasn't, and texts without lines.
use Rattle.std.proofs.Common.{◌≡◌, ◌∙◌, sym, ap, refl, ℕ, ◌<◌, Bool, true, false, not, ◌&&◌, if◌then◌else◌, List, [], ◌∷◌, length, Option, Some, None, arith}
use Rattle.std.proofs.lemmas.Bool.Decides.{nat_tests}
use Rattle.std.specs.Prelude.{◌==◌, find}
use Rattle.std.specs.List.{list_all, position}
use Rattle.std.specs.Option.{option_map}
use Rattle.def_formats.specs.Lines.{text_lines}
use Rattle.tn_formats.proofs.LineLemmas.{line_alone, line_first}
use Rattle.tn_expectation.specs.Expectations.{are_same_lines}

-- by the test of the first line, where the others are as is known
fails_by : (b : Bool) (w : List ℕ) (rest : Option (List ℕ)) (all : Bool) (v : List ℕ) → (rest ≡ Some v → all ≡ false) → (if not b then Some w else rest) ≡ Some v → (b && all) ≡ false
fails_by true w rest all v others e = others e
fails_by false w rest all v others e = refl

no_fail_by : (b : Bool) (w : List ℕ) (rest : Option (List ℕ)) (all : Bool) → (rest ≡ None → all ≡ true) → (if not b then Some w else rest) ≡ None → (b && all) ≡ true
no_fail_by true w rest all others e = others e
no_fail_by false w rest all others e = let clash : Some w ≡ None = e in cc

holds_by : (b : Bool) (w : List ℕ) (rest : Option (List ℕ)) (all : Bool) (v : List ℕ) → (rest ≡ Some v → all ≡ false) → (if b then Some w else rest) ≡ Some v → (not b && all) ≡ false
holds_by true w rest all v others e = refl
holds_by false w rest all v others e = others e

none_by : (b : Bool) (w : List ℕ) (rest : Option (List ℕ)) (all : Bool) → (rest ≡ None → all ≡ true) → (if b then Some w else rest) ≡ None → (not b && all) ≡ true
none_by true w rest all others e = let clash : Some w ≡ None = e in cc
none_by false w rest all others e = others e

-- one for which the test fails
some_fails : (p : List ℕ → Bool) (ws : List (List ℕ)) (v : List ℕ) → find (λ w. not (p w)) ws ≡ Some v → list_all p ws ≡ false
some_fails p [] v e = let clash : None ≡ Some v = e in cc
some_fails p (w ∷ ws) v e = fails_by (p w) w (find (λ x. not (p x)) ws) (list_all p ws) v (λ h. some_fails p ws v h) e

none_fails : (p : List ℕ → Bool) (ws : List (List ℕ)) → find (λ w. not (p w)) ws ≡ None → list_all p ws ≡ true
none_fails p [] e = refl
none_fails p (w ∷ ws) e = no_fail_by (p w) w (find (λ x. not (p x)) ws) (list_all p ws) (λ h. none_fails p ws h) e

-- one for which the test holds
some_holds : (p : List ℕ → Bool) (ws : List (List ℕ)) (v : List ℕ) → find p ws ≡ Some v → list_all (λ w. not (p w)) ws ≡ false
some_holds p [] v e = let clash : None ≡ Some v = e in cc
some_holds p (w ∷ ws) v e = holds_by (p w) w (find p ws) (list_all (λ x. not (p x)) ws) v (λ h. some_holds p ws v h) e

none_holds : (p : List ℕ → Bool) (ws : List (List ℕ)) → find p ws ≡ None → list_all (λ w. not (p w)) ws ≡ true
none_holds p [] e = refl
none_holds p (w ∷ ws) e = none_by (p w) w (find p ws) (list_all (λ x. not (p x)) ws) (λ h. none_holds p ws h) e

module _ {X : Type 0} (f : X → List ℕ) (p : List ℕ → Bool) (ws : List (List ℕ)) (o : Option X) where
  pub absent : (x : X) → option_map f o ≡ find (λ w. not (p w)) ws → o ≡ Some x → false ≡ list_all p ws
  absent x e is = sym (some_fails p ws (f x) (sym e ∙ ap (option_map f) is))

  pub none_absent : option_map f o ≡ find (λ w. not (p w)) ws → o ≡ None → true ≡ list_all p ws
  none_absent e is = sym (none_fails p ws (sym e ∙ ap (option_map f) is))

  pub present : (x : X) → option_map f o ≡ find p ws → o ≡ Some x → false ≡ list_all (λ w. not (p w)) ws
  present x e is = sym (some_holds p ws (f x) (sym e ∙ ap (option_map f) is))

  pub none_present : option_map f o ≡ find p ws → o ≡ None → true ≡ list_all (λ w. not (p w)) ws
  none_present e is = sym (none_holds p ws (sym e ∙ ap (option_map f) is))

-- a text of some bytes has a line
pub some_lines : (text : List ℕ) → 0 < length text → are_same_lines [] (text_lines text) ≡ false
some_lines text some = by_end (position (λ b. b == 10) text) refl
  where
    by_end : (o : Option ℕ) → position (λ b. b == 10) text ≡ o → are_same_lines [] (text_lines text) ≡ false
    by_end None e = ap (are_same_lines []) (line_alone text some e)
    by_end (Some end) e = ap (are_same_lines []) (line_first text end e)

pub no_lines : (text : List ℕ) → length text ≡ 0 → are_same_lines [] (text_lines text) ≡ true
no_lines [] e = refl
no_lines (c ∷ cs) e = absurd (omega arith)

-- it has none just where it has no bytes
pub emptiness : (text : List ℕ) (b : Bool) → b ≡ (length text == 0) → b ≡ are_same_lines [] (text_lines text)
emptiness text true e = sym (no_lines text (grind (arith, nat_tests)))
emptiness text false e = sym (some_lines text (grind (arith, nat_tests)))
