-- The lines of a test up to the message, and those after them.
use Rattle.std.proofs.Common.{◌≡◌, ◌∙◌, ℕ, suc, ◌+◌, ◌<◌, ◌≤◌, List, [], ◌∷◌, ◌++◌, length, get_or, drop, map, flat_map, slice_get, Option, Result, Ok, Err, OnOk, codes, refl, sym, ap, append_assoc, append-nil, add-one}
use Rattle.std.proofs.lemmas.Grind.{flat_map-append}
use Rattle.std.proofs.lemmas.List.{drop_more, drop_all}
use Rattle.def_term.specs.Tree.{Tree}
use Rattle.def_term.specs.Names.{Name}
use Rattle.def_term.specs.Text.{w}
use Rattle.def_spec.specs.Matching.{Bindings}
use Rattle.def_spec.specs.Expressions as ex
use Rattle.def_spec.specs.Outcome as outcome
use Rattle.def_explain.specs.Differences.{Difference, on_node}
use Rattle.def_explain.specs.Reasons.{Reason}
use Rattle.def_explain.specs.Verdicts.{Verdict, fails, fires, verdict_of}
use Rattle.def_explain.specs.Texts.{fires_differences, spec_test_text}
use Rattle.def_fun_words.specs.Words.{ClauseWords}
use Rattle.def_fun_words.specs.WordTexts.{TestLine, variable_words, variable_named, name_numbered, line_in, test_line_text, failed_line, fired_clause_line, bound_line, plain_line, lines_of_message, verdict_lines, test_lines_after, fun_test_text}
use Rattle.def_fun_words.proofs.Lines.{lines_said}
use Rattle.tn_spec.specs.Views.{clause_seen}
use Rattle.tn_spec.specs.declared.spec.Clause.{Clause}
use Rattle.tn_fun_words.specs.FrontLines.{named_line, fired_lines_text, test_front_lines, test_front_after, test_end_lines, test_end_after, test_front_text}

-- ---- the two halves of a text

module _ (d : ex.Dialect) (c : ex.Context) where
  halves_of : (ws : List ClauseWords) (k : outcome.Clause) (n : ℕ) (v : Verdict) (ls fs es : List TestLine) → flat_map (test_line_text ws) ls ≡ flat_map (test_line_text ws) fs ++ flat_map (test_line_text ws) es
      → flat_map (test_line_text ws) (verdict_lines d k c n v ls) ≡ flat_map (test_line_text ws) (test_front_lines n v fs) ++ flat_map (test_line_text ws) (test_end_lines d k c n v es)
  halves_of ws k n (fails r) ls fs es h = ap (λ s. test_line_text ws (failed_line n r) ++ s) h ∙ sym (append_assoc (test_line_text ws (failed_line n r)) (flat_map (test_line_text ws) fs) (flat_map (test_line_text ws) es))
  halves_of ws k n (fires b effects) ls fs es h = flat_map-append (test_line_text ws) (fired_clause_line n effects ∷ map (bound_line n) b) (lines_of_message d k c n b effects)

  halves : (ws : List ClauseWords) (n : ℕ) (ks : List outcome.Clause) → flat_map (test_line_text ws) (test_lines_after d n ks c) ≡ test_front_text ws d n ks c ++ flat_map (test_line_text ws) (test_end_after d n ks c)
  halves ws n [] = refl
  halves ws n (k ∷ ks) = halves_of ws k n (verdict_of d k c) (test_lines_after d (suc n) ks c) (test_front_after d (suc n) ks c) (test_end_after d (suc n) ks c) (halves ws (suc n) ks)

  plain_differences : (ws : List ClauseWords) (n : ℕ) (xs : List Difference) → flat_map (test_line_text ws) (map (λ x. plain_line n (on_node x)) xs) ≡ flat_map (test_line_text []) (map (λ x. plain_line n (on_node x)) xs)
  plain_differences ws n [] = refl
  plain_differences ws n (x ∷ xs) = ap (λ s. test_line_text [] (plain_line n (on_node x)) ++ s) (plain_differences ws n xs)

  plain_end : (ws : List ClauseWords) (k : outcome.Clause) (n : ℕ) (v : Verdict) (es : List TestLine) → flat_map (test_line_text ws) es ≡ flat_map (test_line_text []) es → flat_map (test_line_text ws) (test_end_lines d k c n v es) ≡ flat_map (test_line_text []) (test_end_lines d k c n v es)
  plain_end ws k n (fails r) es h = h
  plain_end ws k n (fires b effects) es h = ap (λ s. ((codes "=> " ++ Rattle.def_explain.specs.Texts.end_text d c.self_pid effects) ++ []) ++ 10 ∷ [] ++ s) (plain_differences ws n (fires_differences d k b c effects))

  plain_ends : (ws : List ClauseWords) (n : ℕ) (ks : List outcome.Clause) → flat_map (test_line_text ws) (test_end_after d n ks c) ≡ flat_map (test_line_text []) (test_end_after d n ks c)
  plain_ends ws n [] = refl
  plain_ends ws n (k ∷ ks) = plain_end ws k n (verdict_of d k c) (test_end_after d (suc n) ks c) (plain_ends ws (suc n) ks)

  -- the text of `spec`, and that in the words of a fun
  pub plain_halves : (ks : List outcome.Clause) → spec_test_text d ks c ≡ test_front_text [] d 0 ks c ++ flat_map (test_line_text []) (test_end_after d 0 ks c)
  plain_halves ks = sym (lines_said d c ks) ∙ halves [] 0 ks

  pub fun_halves : (ws : List ClauseWords) (ks : List outcome.Clause) → fun_test_text ws d ks c ≡ test_front_text ws d 0 ks c ++ flat_map (test_line_text []) (test_end_after d 0 ks c)
  fun_halves ws ks = halves ws 0 ks ∙ ap (λ s. test_front_text ws d 0 ks c ++ s) (plain_ends ws 0 ks)

-- ---- bindings

bindings_mapped : (wss : List ClauseWords) (n : ℕ) (b : Bindings) → flat_map (test_line_text wss) (map (bound_line n) b) ≡ flat_map (λ e. line_in (slice_get wss n) (bound_line n e)) b
bindings_mapped wss n [] = refl
bindings_mapped wss n (e ∷ b) = ap (λ s. line_in (slice_get wss n) (bound_line n e) ++ s) (bindings_mapped wss n b)

bound_pieces : (blanks name value : List ℕ) → (blanks ++ (name ++ (value ++ []))) ++ 10 ∷ [] ≡ ((blanks ++ name) ++ value) ++ 10 ∷ []
bound_pieces blanks name value = simp (append_assoc, append-nil)

bound_named : (ws : Option ClauseWords) (ns : List Name) (n : ℕ) (e : ℕ × Tree) → ((k : ℕ) → name_numbered ns k ≡ variable_named ws k) → line_in ws (bound_line n e) ≡ named_line ns e
bound_named ws ns n e h =
    bound_pieces (codes "  ") (variable_words (variable_named ws e.0) e.0) (codes " is " ++ w e.1)
    ∙ ap (λ o. ((codes "  " ++ variable_words o e.0) ++ (codes " is " ++ w e.1)) ++ 10 ∷ []) (sym (h e.0))

pub bindings_named : (ws : Option ClauseWords) (ns : List Name) (n : ℕ) (b : Bindings) → ((k : ℕ) → name_numbered ns k ≡ variable_named ws k) → flat_map (named_line ns) b ≡ flat_map (λ e. line_in ws (bound_line n e)) b
bindings_named ws ns n [] h = refl
bindings_named ws ns n (e ∷ b) h = ap (λ s. s ++ flat_map (named_line ns) b) (sym (bound_named ws ns n e h)) ∙ ap (λ s. line_in ws (bound_line n e) ++ s) (bindings_named ws ns n b h)

-- the lines of a clause that fires, where the last piece is refused or not
pub fired_ok : {T E : Type 0} (done : Result T E) (ws : Option ClauseWords) (ns : List Name) (n : ℕ) (b : Bindings) (es : List ex.Effect) (o m l : List ℕ) → ((k : ℕ) → name_numbered ns k ≡ variable_named ws k)
    → m ≡ o ++ line_in ws (fired_clause_line n es) → OnOk done (l ≡ m ++ flat_map (named_line ns) b) → OnOk done (l ≡ o ++ fired_lines_text ws n b es)
fired_ok (Ok v) ws ns n b es o m l h first rest =
    rest ∙ ap (λ s. s ++ flat_map (named_line ns) b) first ∙ append_assoc o (line_in ws (fired_clause_line n es)) (flat_map (named_line ns) b)
    ∙ ap (λ s. o ++ (line_in ws (fired_clause_line n es) ++ s)) (bindings_named ws ns n b h)
fired_ok (Err e) ws ns n b es o m l h first rest = tt

-- ---- clauses, one after another

module _ {A : Type 0} (d : ex.Dialect) (c : ex.Context) (wss : List ClauseWords) (ks : List (Clause A)) (i : ℕ) where
  abbrev pub front_here : ℕ → List ℕ
  front_here n = test_front_text wss d n (map clause_seen (drop n ks)) c

  here : (k : Clause A) → i < length ks → k ≡ get_or ks i k → front_here i ≡ flat_map (test_line_text wss) (test_front_lines i (verdict_of d (clause_seen k) c) (test_front_after d (i + 1) (map clause_seen (drop (i + 1) ks)) c))
  here k below is =
      ap (λ js. test_front_text wss d i (map clause_seen js) c) (drop_more ks i k below)
      ∙ ap (λ j. flat_map (test_line_text wss) (test_front_lines i (verdict_of d (clause_seen j) c) (test_front_after d (suc i) (map clause_seen (drop (i + 1) ks)) c))) (sym is)
      ∙ ap (λ m. flat_map (test_line_text wss) (test_front_lines i (verdict_of d (clause_seen k) c) (test_front_after d m (map clause_seen (drop (i + 1) ks)) c))) (sym (add-one i))

  -- one that doesn't fire
  pub goes_on : (k : Clause A) (ws : Option ClauseWords) (r : Reason) (now after whole : List ℕ) → i < length ks → k ≡ get_or ks i k → ws ≡ slice_get wss i → fails r ≡ verdict_of d (clause_seen k) c
      → now ++ front_here i ≡ whole → after ≡ now ++ line_in ws (failed_line i r) → after ++ front_here (i + 1) ≡ whole
  goes_on k ws r now after whole below is words of so_far made =
      ap (λ s. s ++ front_here (i + 1)) (made ∙ ap (λ o. now ++ line_in o (failed_line i r)) words)
      ∙ append_assoc now (line_in (slice_get wss i) (failed_line i r)) (front_here (i + 1))
      ∙ ap (λ s. now ++ s) (ap (λ v. flat_map (test_line_text wss) (test_front_lines i v (test_front_after d (i + 1) (map clause_seen (drop (i + 1) ks)) c))) of ∙ sym (here k below is))
      ∙ so_far

  -- the one that fires
  pub ends_ok : {T E : Type 0} (done : Result T E) (k : Clause A) (ws : Option ClauseWords) (b : Bindings) (es : List ex.Effect) (now after whole : List ℕ) → i < length ks → k ≡ get_or ks i k → ws ≡ slice_get wss i → fires b es ≡ verdict_of d (clause_seen k) c
      → now ++ front_here i ≡ whole → OnOk done (after ≡ now ++ fired_lines_text ws i b es) → OnOk done (after ≡ whole)
  ends_ok (Ok v) k ws b es now after whole below is words of so_far made =
      made ∙ ap (λ o. now ++ fired_lines_text o i b es) words
      ∙ ap (λ s. now ++ (line_in (slice_get wss i) (fired_clause_line i es) ++ s)) (sym (bindings_mapped wss i b))
      ∙ ap (λ s. now ++ s) (ap (λ v. flat_map (test_line_text wss) (test_front_lines i v (test_front_after d (i + 1) (map clause_seen (drop (i + 1) ks)) c))) of ∙ sym (here k below is))
      ∙ so_far
  ends_ok (Err e) k ws b es now after whole below is words of so_far made = tt

  -- none of them
  pub none_fires : (now whole : List ℕ) → length ks ≤ i → now ++ front_here i ≡ whole → now ≡ whole
  none_fires now whole past so_far = sym (append-nil now) ∙ ap (λ js. now ++ test_front_text wss d i (map clause_seen js) c) (sym (drop_all i ks past)) ∙ so_far
