-- The lines of a test without the words of a fun.
use Rattle.std.proofs.Common.{◌≡◌, ◌∙◌, ℕ, suc, List, [], ◌∷◌, ◌++◌, map, flat_map, None, codes, decimal, refl, ap, append_assoc, append-nil}
use Rattle.std.proofs.lemmas.Grind.{flat_map-append}
use Rattle.def_term.specs.Text.{w, atom_text}
use Rattle.def_spec.specs.Matching.{Bindings}
use Rattle.def_spec.specs.Expressions.{Dialect, Context, Effect}
use Rattle.def_spec.specs.Outcome.{Clause}
use Rattle.def_explain.specs.Mismatches.{is_term, is_bound, is_tuple_of, is_list_of, mismatch}
use Rattle.def_explain.specs.Heads.{HeadReason, no_list, other_length, after_matching}
use Rattle.def_explain.specs.Reasons.{ConditionReason, has_value, faults_at, Reason, by_head, by_condition}
use Rattle.def_explain.specs.ReasonTexts.{found_text}
use Rattle.def_explain.specs.Verdicts.{Verdict, fails, fires, verdict_of}
use Rattle.def_explain.specs.Differences.{Difference, on_node}
use Rattle.def_explain.specs.Texts.{bound_text, bound_texts, head_reason_text, reason_text, condition_reason_text, binding_line, clause_text, effects_text, end_text, difference_line, fires_differences, fires_text, verdict_text, spec_test_text_after}
use Rattle.def_fun_words.specs.WordTexts.{TestLine, line_parts_text, line_in, test_line_text, head_parts, bound_parts, condition_parts, reason_parts, failed_line, fired_clause_line, bound_line, plain_line, lines_of_message, fires_lines, verdict_lines, test_lines_after, fun_test_text}

-- ---- reasons

bound_pieces : (at number place colon name is value found : List ℕ)
    → (((at ++ number) ++ place) ++ colon) ++ (name ++ (((is ++ value) ++ found) ++ [])) ≡ (at ++ number) ++ (((place ++ colon) ++ ((name ++ is) ++ value)) ++ found)
bound_pieces at number place colon name is value found = simp (append_assoc, append-nil)

head_said : (h : HeadReason) → line_parts_text None (head_parts h) ≡ head_reason_text h
head_said no_list = append-nil (codes "the head doesn't match")
head_said other_length = append-nil (codes "the head has another number of elements")
head_said (after_matching n (mismatch place (is_term t) v)) = append-nil (head_reason_text (after_matching n (mismatch place (is_term t) v)))
head_said (after_matching n (mismatch place (is_bound k t) v)) =
    bound_pieces (codes "the head doesn't match at element ") (decimal (suc n)) (flat_map (λ m. codes ", element " ++ decimal (suc m)) place) (codes ": ") (atom_text (36 ∷ decimal k)) (codes " is ") (w t) (found_text v)
head_said (after_matching n (mismatch place (is_tuple_of m) v)) = append-nil (head_reason_text (after_matching n (mismatch place (is_tuple_of m) v)))
head_said (after_matching n (mismatch place (is_list_of m) v)) = append-nil (head_reason_text (after_matching n (mismatch place (is_list_of m) v)))

several_pieces : (between name is value rest : List ℕ) → between ++ (name ++ ((is ++ value) ++ rest)) ≡ (between ++ ((name ++ is) ++ value)) ++ rest
several_pieces between name is value rest = simp append_assoc

several_bound_said : (between : List ℕ) (b : Bindings) → line_parts_text None (bound_parts between b) ≡ bound_texts between b
several_bound_said between [] = refl
several_bound_said between (p ∷ ps) =
    several_pieces between (atom_text (36 ∷ decimal p.0)) (codes " is ") (w p.1) (line_parts_text None (bound_parts (codes ", ") ps))
    ∙ ap (λ s. (between ++ bound_text p) ++ s) (several_bound_said (codes ", ") ps)

condition_said : (r : ConditionReason) → line_parts_text None (condition_parts r) ≡ condition_reason_text r
condition_said (has_value t bound) = ap (λ s. (codes " is " ++ w t) ++ s) (several_bound_said (codes ": ") bound)
condition_said (faults_at e) = append-nil (condition_reason_text (faults_at e))

pub reason_said : (r : Reason) → line_parts_text None (reason_parts r) ≡ reason_text r
reason_said (by_head h) = head_said h
reason_said (by_condition k r) = ap (λ s. (codes "condition " ++ decimal (suc k)) ++ s) (condition_said r)

-- ---- lines

failed_pieces : (head colon reason rest : List ℕ) → (((head ++ []) ++ (colon ++ reason)) ++ 10 ∷ []) ++ rest ≡ head ++ ((colon ++ reason) ++ 10 ∷ rest)
failed_pieces head colon reason rest = simp (append_assoc, append-nil)

failed_said : (n : ℕ) (r : Reason) (rest : List ℕ) → line_in None (failed_line n r) ++ rest ≡ clause_text n ((codes ": " ++ reason_text r) ++ 10 ∷ rest)
failed_said n r rest =
    failed_pieces (codes "clause " ++ decimal (suc n)) (codes ": ") (line_parts_text None (reason_parts r)) rest
    ∙ ap (λ s. (codes "clause " ++ decimal (suc n)) ++ ((codes ": " ++ s) ++ 10 ∷ rest)) (reason_said r)

bound_line_pieces : (blanks name is value : List ℕ) → (blanks ++ (name ++ ((is ++ value) ++ []))) ++ 10 ∷ [] ≡ (((blanks ++ name) ++ is) ++ value) ++ 10 ∷ []
bound_line_pieces blanks name is value = simp (append_assoc, append-nil)

bound_said : (n : ℕ) (b : Bindings) → flat_map (test_line_text []) (map (bound_line n) b) ≡ flat_map binding_line b
bound_said n [] = refl
bound_said n (e ∷ b) =
    ap (λ s. s ++ flat_map (test_line_text []) (map (bound_line n) b)) (bound_line_pieces (codes "  ") (atom_text (36 ∷ decimal e.0)) (codes " is ") (w e.1))
    ∙ ap (λ s. binding_line e ++ s) (bound_said n b)

differences_said : (n : ℕ) (xs : List Difference) → flat_map (test_line_text []) (map (λ x. plain_line n (on_node x)) xs) ≡ flat_map difference_line xs
differences_said n [] = refl
differences_said n (x ∷ xs) =
    ap (λ s. (s ++ 10 ∷ []) ++ flat_map (test_line_text []) (map (λ y. plain_line n (on_node y)) xs)) (append-nil (on_node x))
    ∙ ap (λ s. difference_line x ++ s) (differences_said n xs)

fires_pieces : (head word effects bindings arrow end others : List ℕ)
    → (((head ++ []) ++ ((word ++ effects) ++ [])) ++ 10 ∷ []) ++ (bindings ++ ((((arrow ++ end) ++ []) ++ 10 ∷ []) ++ others)) ≡ head ++ (((((word ++ effects) ++ 10 ∷ bindings) ++ arrow) ++ end) ++ 10 ∷ others)
fires_pieces head word effects bindings arrow end others = simp (append_assoc, append-nil)

module _ (d : Dialect) (c : Context) where
  fires_said : (k : Clause) (n : ℕ) (b : Bindings) (es : List Effect) → flat_map (test_line_text []) (fires_lines d k c n b es) ≡ fires_text d k c n b es
  fires_said k n b es =
      let first : List ℕ = line_in None (fired_clause_line n es) in
      let message : List ℕ = line_in None (plain_line n (codes "=> " ++ end_text d c.self_pid es)) in
      ap (λ s. first ++ s) (flat_map-append (test_line_text []) (map (bound_line n) b) (lines_of_message d k c n b es))
      ∙ ap (λ s. first ++ (s ++ flat_map (test_line_text []) (lines_of_message d k c n b es))) (bound_said n b)
      ∙ ap (λ s. first ++ (flat_map binding_line b ++ (message ++ s))) (differences_said n (fires_differences d k b c es))
      ∙ fires_pieces (codes "clause " ++ decimal (suc n)) (codes " fires") (effects_text es) (flat_map binding_line b) (codes "=> ") (end_text d c.self_pid es) (flat_map difference_line (fires_differences d k b c es))

  verdict_said : (k : Clause) (n : ℕ) (v : Verdict) (ls : List TestLine) (rest : List ℕ) → flat_map (test_line_text []) ls ≡ rest → flat_map (test_line_text []) (verdict_lines d k c n v ls) ≡ verdict_text d k c n v rest
  verdict_said k n (fails r) ls rest h = ap (λ s. line_in None (failed_line n r) ++ s) h ∙ failed_said n r rest
  verdict_said k n (fires b es) ls rest h = fires_said k n b es

  said_after : (n : ℕ) (ks : List Clause) → flat_map (test_line_text []) (test_lines_after d n ks c) ≡ spec_test_text_after d n ks c
  said_after n [] = refl
  said_after n (k ∷ ks) = verdict_said k n (verdict_of d k c) (test_lines_after d (suc n) ks c) (spec_test_text_after d (suc n) ks c) (said_after (suc n) ks)

  pub lines_said : (ks : List Clause) → fun_test_text [] d ks c ≡ spec_test_text_after d 0 ks c
  lines_said ks = said_after 0 ks
