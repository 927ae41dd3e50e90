-- The text of a search by whether it has patterns.
use Rattle.std.proofs.Common.{◌≡◌, ℕ, suc, List, [], ◌∷◌, ◌++◌, Bool, true, false, length, map, ap, codes, refl, sym, arith}
use Rattle.std.specs.Prelude.{◌==◌}
use Rattle.std.proofs.lemmas.Bool.{eqb-true}
use Rattle.std.specs.List.{list_any}
use Rattle.def_term.specs.Names.{Name}
use Rattle.def_explore.specs.Answers.{RestEntry}
use Rattle.def_explore.specs.Output.{closing_line, rest_entry_text, rest_entry_texts, search_text, words_text}
use Rattle.def_explore.specs.Words.{PatternQuestion}
use Rattle.def_compare.specs.Answers.{SearchQuestion, about_patterns, about_trace, answer_text}
use Rattle.def_compare.specs.AnswerSummaries.{answer_text_in, entry_texts_in, exploration_text_in, search_text_in}

nonempty : {X : Type 0} (x : X) (xs : List X) → true ≡ (length (x ∷ xs) == 0) → ⊥
nonempty x xs is = omega (arith, eqb-true (length (x ∷ xs)) 0 (sym is))

pub no_questions : {X : Type 0} (b : Bool) (view : X → PatternQuestion) (xs : List X) (ss : List (Name × Name)) (es : List RestEntry) (n : ℕ) (whole : Bool) → true ≡ (length xs == 0) → exploration_text_in b ss es n whole ≡ search_text_in b ss (map view xs) es n whole
no_questions b view [] ss es n whole is = refl
no_questions b view (x ∷ xs) ss es n whole is = absurd (nonempty x xs is)

pub none_refuted : {X : Type 0} (view : X → PatternQuestion) (f : PatternQuestion → Bool) (xs : List X) → true ≡ (length xs == 0) → false ≡ list_any f (map view xs)
none_refuted view f [] is = refl
none_refuted view f (x ∷ xs) is = absurd (nonempty x xs is)

pub some_questions : {X : Type 0} (b : Bool) (view : X → PatternQuestion) (xs : List X) (ss : List (Name × Name)) (es : List RestEntry) (n : ℕ) (whole : Bool) → false ≡ (length xs == 0) → words_text ss (map view xs) es n whole ≡ search_text_in b ss (map view xs) es n whole
some_questions b view [] ss es n whole is = cc
some_questions b view (x ∷ xs) ss es n whole is = refl

-- ---- lines for a reader

-- those with whole listings are the plain ones
plain_entries : (ss : List (Name × Name)) (count n : ℕ) (es : List RestEntry) → entry_texts_in false ss count n es ≡ rest_entry_texts ss count n es
plain_entries ss count n [] = refl
plain_entries ss count n (e ∷ es) = ap (λ xs. rest_entry_text ss count n e ++ xs) (plain_entries ss count (suc n) es)

plain_search : (ss : List (Name × Name)) (qs : List PatternQuestion) (es : List RestEntry) (n : ℕ) (whole : Bool) → search_text_in false ss qs es n whole ≡ search_text ss qs es n whole
plain_search ss [] es n whole = ap (λ xs. xs ++ codes "== explored\n" ++ closing_line n (length es) whole) (plain_entries ss (length es) 1 es)
plain_search ss (a ∷ qs) es n whole = refl

pub plain_text : (ss : List (Name × Name)) (q : SearchQuestion) (es : List RestEntry) (n : ℕ) (whole : Bool) → answer_text_in false ss q es n whole ≡ answer_text ss q es n whole
plain_text ss (about_patterns qs) es n whole = plain_search ss qs es n whole
plain_text ss (about_trace a) es n whole = refl
