-- The texts of clauses, one after another.
use Rattle.std.proofs.Common.{◌≡◌, ◌∙◌, ℕ, suc, ◌+◌, ◌<◌, ◌≤◌, Bool, true, false, Some, None, option_to_list, List, [], ◌∷◌, ◌++◌, if◌then◌else◌, Result, Ok, Err, OnOk, is_ok, codes, decimal, length, get_or, drop, flat_map, map, refl, sym, ap, append_assoc, add-one}
use Rattle.std.proofs.lemmas.List.{drop_more, drop_all}
use Rattle.def_spec.specs.Expressions as ex
use Rattle.def_spec.specs.Outcome as outcome
use Rattle.def_spec.specs.Matching.{Bindings}
use Rattle.def_explain.specs.Reasons.{Reason}
use Rattle.def_explain.specs.Verdicts.{fails, fires, verdict_of}
use Rattle.def_explain.specs.Differences.{Difference, node_ends, reads_freed, suppresses_message, leaves_no_mark, ignores_silent, ends_test, evaluates_from_right, faults_in_logic, reads_no_list, one_shows_order, list_differs, difference_where, body_differs, body_differences, test_differences}
use Rattle.def_explain.specs.Logic.{clause_has_logic_on_other}
use Rattle.def_explain.specs.Texts.{binding_line, clause_text, reason_text, effects_text, end_text, difference_line, fires_differences, fires_text, verdict_text, spec_test_text_after}
use Rattle.tn_spec.specs.Views.{clause_seen}
use Rattle.tn_spec.specs.declared.spec.Clause.{Clause}
use Rattle.tn_difference.specs.Differences.{difference_line_where}
use Rattle.tn_verdict.specs.SpecTests.{failed_text, fires_line, message_line}

-- a clause's number, and then the rest
pub clause_more : (n : ℕ) (rest : List ℕ) → clause_text n rest ≡ clause_text n [] ++ rest
clause_more n rest = ap (λ l. codes "clause " ++ l) (sym (append_assoc (decimal (suc n)) [] rest))

failed_more : (n : ℕ) (r : Reason) (behind : List ℕ) → clause_text n (codes ": " ++ reason_text r ++ 10 ∷ behind) ≡ failed_text n r ++ behind
failed_more n r behind =
    ap (λ l. codes "clause " ++ (decimal (suc n) ++ (codes ": " ++ l))) (sym (append_assoc (reason_text r) (10 ∷ []) behind))
    ∙ ap (λ l. codes "clause " ++ l) (sym (append_assoc (decimal (suc n)) (codes ": " ++ reason_text r ++ 10 ∷ []) behind))

regroup : (effects bindings arrow end rest : List ℕ) → (((effects ++ (10 ∷ bindings)) ++ arrow) ++ end) ++ 10 ∷ rest ≡ (effects ++ 10 ∷ []) ++ (bindings ++ (((arrow ++ end) ++ 10 ∷ []) ++ rest))
regroup effects bindings arrow end rest = simp append_assoc

-- the lines of a clause that fires
pub fired_is : (d : ex.Dialect) (k : outcome.Clause) (c : ex.Context) (n : ℕ) (b : Bindings) (es : List ex.Effect)
    → fires_text d k c n b es ≡ fires_line n es ++ (flat_map binding_line b ++ (message_line d c.self_pid es ++ flat_map difference_line (fires_differences d k b c es)))
fired_is d k c n b es =
    let others : List ℕ = flat_map difference_line (fires_differences d k b c es) in
    let rest : List ℕ = flat_map binding_line b ++ (message_line d c.self_pid es ++ others) in
    ap (λ l. codes "clause " ++ (decimal (suc n) ++ (codes " fires" ++ l))) (regroup (effects_text es) (flat_map binding_line b) (codes "=> ") (end_text d c.self_pid es) others)
    ∙ ap (λ l. codes "clause " ++ l) (sym (append_assoc (decimal (suc n)) (codes " fires" ++ effects_text es ++ 10 ∷ []) rest))

-- a line for each difference that there is
one-where : (b : Bool) (x : Difference) (xs : List Difference) → flat_map difference_line (if b then x ∷ xs else xs) ≡ difference_line_where b x ++ flat_map difference_line xs
one-where true x xs = refl
one-where false x xs = refl

-- with others after these
one-more : (b : Bool) (x : Difference) (xs ys : List Difference) → flat_map difference_line ((if b then x ∷ xs else xs) ++ ys) ≡ difference_line_where b x ++ flat_map difference_line (xs ++ ys)
one-more true x xs ys = refl
one-more false x xs ys = refl

each_of_body : (d : ex.Dialect) (c : ex.Context) (es : List ex.Effect) → flat_map difference_line (body_differences d c es ++ test_differences d c es)
    ≡ difference_line_where (body_differs d c es node_ends) node_ends ++ (difference_line_where (body_differs d c es reads_freed) reads_freed ++ (difference_line_where (body_differs d c es suppresses_message) suppresses_message ++ (difference_line_where (body_differs d c es leaves_no_mark) leaves_no_mark ++ (difference_line_where (body_differs d c es ignores_silent) ignores_silent ++ (difference_line_where (body_differs d c es ends_test) ends_test ++ [])))))
each_of_body d c es =
    let f : Difference → Bool = body_differs d c es in
    one-more (f node_ends) node_ends _ _
    ∙ ap (λ l. difference_line_where (f node_ends) node_ends ++ l) (one-more (f reads_freed) reads_freed _ _
    ∙ ap (λ l. difference_line_where (f reads_freed) reads_freed ++ l) (one-more (f suppresses_message) suppresses_message _ _
    ∙ ap (λ l. difference_line_where (f suppresses_message) suppresses_message ++ l) (one-more (f leaves_no_mark) leaves_no_mark _ _
    ∙ ap (λ l. difference_line_where (f leaves_no_mark) leaves_no_mark ++ l) (one-more (f ignores_silent) ignores_silent _ _
    ∙ ap (λ l. difference_line_where (f ignores_silent) ignores_silent ++ l) (one-where (f ends_test) ends_test [])))))

-- before them those of the order of evaluation, of logic and of the list of no elements
first-more : (q : Bool) (x : Difference) (xs ys : List Difference) → flat_map difference_line ((option_to_list (difference_where q x) ++ xs) ++ ys) ≡ difference_line_where q x ++ flat_map difference_line (xs ++ ys)
first-more true x xs ys = refl
first-more false x xs ys = refl

pub each_where : (d : ex.Dialect) (k : outcome.Clause) (b : Bindings) (c : ex.Context) (es : List ex.Effect) → flat_map difference_line (fires_differences d k b c es)
    ≡ difference_line_where (one_shows_order k.body) evaluates_from_right ++ (difference_line_where (clause_has_logic_on_other d k b c) faults_in_logic ++ (difference_line_where (list_differs d k) reads_no_list ++ (difference_line_where (body_differs d c es node_ends) node_ends ++ (difference_line_where (body_differs d c es reads_freed) reads_freed ++ (difference_line_where (body_differs d c es suppresses_message) suppresses_message ++ (difference_line_where (body_differs d c es leaves_no_mark) leaves_no_mark ++ (difference_line_where (body_differs d c es ignores_silent) ignores_silent ++ (difference_line_where (body_differs d c es ends_test) ends_test ++ []))))))))
each_where d k b c es =
    let ys : List Difference = test_differences d c es in
    first-more (one_shows_order k.body) evaluates_from_right _ ys
    ∙ ap (λ l. difference_line_where (one_shows_order k.body) evaluates_from_right ++ l) (first-more (clause_has_logic_on_other d k b c) faults_in_logic _ ys
    ∙ ap (λ l. difference_line_where (clause_has_logic_on_other d k b c) faults_in_logic ++ l) (first-more (list_differs d k) reads_no_list (body_differences d c es) ys
    ∙ ap (λ l. difference_line_where (list_differs d k) reads_no_list ++ l) (each_of_body d c es)))

module _ {A : Type 0} (d : ex.Dialect) (c : ex.Context) (ks : List (Clause A)) (i : ℕ) where
  abbrev pub text_after : ℕ → List ℕ
  text_after n = spec_test_text_after d n (map clause_seen (drop n ks)) c

  here : (k : Clause A) → i < length ks → k ≡ get_or ks i k → text_after i ≡ verdict_text d (clause_seen k) c i (verdict_of d (clause_seen k) c) (text_after (i + 1))
  here k below is =
      ap (λ js. spec_test_text_after d i (map clause_seen js) c) (drop_more ks i k below)
      ∙ ap (λ j. verdict_text d (clause_seen j) c i (verdict_of d (clause_seen j) c) (spec_test_text_after d (suc i) (map clause_seen (drop (i + 1) ks)) c)) (sym is)
      ∙ ap (λ m. verdict_text d (clause_seen k) c i (verdict_of d (clause_seen k) c) (spec_test_text_after d m (map clause_seen (drop (i + 1) ks)) c)) (sym (add-one i))

  -- one that doesn't fire
  pub goes_on : (k : Clause A) (r : Reason) (now after whole : List ℕ) → i < length ks → k ≡ get_or ks i k → fails r ≡ verdict_of d (clause_seen k) c
      → now ++ text_after i ≡ whole → after ≡ now ++ failed_text i r → after ++ text_after (i + 1) ≡ whole
  goes_on k r now after whole below is of so_far made =
      ap (λ l. l ++ text_after (i + 1)) made
      ∙ append_assoc now (failed_text i r) (text_after (i + 1))
      ∙ ap (λ l. now ++ l) (sym (failed_more i r (text_after (i + 1))) ∙ ap (λ v. verdict_text d (clause_seen k) c i v (text_after (i + 1))) of ∙ sym (here k below is))
      ∙ so_far

  -- the one that fires
  pub ends : (k : Clause A) (b : Bindings) (es : List ex.Effect) (now after whole : List ℕ) → i < length ks → k ≡ get_or ks i k → fires b es ≡ verdict_of d (clause_seen k) c
      → now ++ text_after i ≡ whole → after ≡ now ++ fires_text d (clause_seen k) c i b es → after ≡ whole
  ends k b es now after whole below is of so_far made =
      made ∙ ap (λ l. now ++ l) (ap (λ v. verdict_text d (clause_seen k) c i v (text_after (i + 1))) of ∙ sym (here k below is)) ∙ so_far

  -- none of them
  pub none_fires : (now after whole : List ℕ) → length ks ≤ i → now ++ text_after i ≡ whole → after ≡ now ++ (codes "=> no message: no clause fires" ++ 10 ∷ []) → after ≡ whole
  none_fires now after whole past so_far made =
      made ∙ ap (λ js. now ++ spec_test_text_after d i (map clause_seen js) c) (sym (drop_all i ks past)) ∙ so_far

  -- the same, where the text is refused or not
  pub ends_ok : {T E : Type 0} (done : Result T E) (k : Clause A) (b : Bindings) (es : List ex.Effect) (now after whole : List ℕ) → i < length ks → k ≡ get_or ks i k → fires b es ≡ verdict_of d (clause_seen k) c
      → now ++ text_after i ≡ whole → OnOk done (after ≡ now ++ fires_text d (clause_seen k) c i b es) → OnOk done (after ≡ whole)
  ends_ok (Ok v) k b es now after whole below is of so_far made = ends k b es now after whole below is of so_far made
  ends_ok (Err e) k b es now after whole below is of so_far made = tt

  pub none_fires_ok : {T E : Type 0} (done : Result T E) (now after whole : List ℕ) → length ks ≤ i → now ++ text_after i ≡ whole
      → after ≡ (if is_ok done then now ++ (codes "=> no message: no clause fires" ++ 10 ∷ []) else now) → OnOk done (after ≡ whole)
  none_fires_ok (Ok v) now after whole past so_far made = none_fires now after whole past so_far made
  none_fires_ok (Err e) now after whole past so_far made = tt
