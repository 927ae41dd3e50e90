-- The tokens of a condition, from the front.
use Rattle.std.proofs.Common.{◌≡◌, ◌∙◌, ℕ, zero, suc, ◌+◌, ◌<◌, ◌≤◌, ◌==◌, true, false, Bool, cond, List, [], ◌∷◌, ◌++◌, length, get_or, slice_index_or, drop, map, refl, arith, sym, ap, append_assoc, append-nil}
use Rattle.std.proofs.lemmas.List.{drop_more, drop_all}
use Rattle.def_fun.specs.Tokens.{FunSpan}
use Rattle.def_fun.specs.Scan.{fun_spans}
use Rattle.def_fun.specs.Trees.{FunExpr, first_byte}
use Rattle.def_fun_words.specs.Words.{condition_text, is_condition_end, open_after, condition_in_front, spans_at, span_bytes, blank_between, spaced_after}
use Rattle.tn_fun.specs.Tokens.{span_seen}
use Rattle.tn_fun.specs.declared.token.Token.{Token}

-- the token at an index
same_there : {X : Type 0} (xs : List X) (i : ℕ) (d e : X) → i < length xs → slice_index_or xs i d ≡ get_or xs i e
same_there [] i d e below = absurd (omega (arith, below))
same_there (x ∷ xs) zero d e below = refl
same_there (x ∷ xs) (suc i) d e below = same_there xs i d e (omega (arith, below))

pub at_token : (tokens : List Token) (i : ℕ) (d : Token) → i < length tokens → slice_index_or tokens i d ≡ get_or tokens i (slice_index_or tokens i d)
at_token tokens i d below = same_there tokens i d (slice_index_or tokens i d) below

-- before the first token
pub tokens_begin : (text : List ℕ) (e : FunExpr) (end : ℕ) (o : List ℕ) (spans front : List FunSpan) → end ≡ first_byte e → spans ≡ fun_spans text → front ≡ spans_at end spans
    → o ++ spaced_after text end (condition_in_front 0 front) ≡ o ++ condition_text text e
tokens_begin text e end o spans front at all here =
    ap (λ xs. o ++ spaced_after text end (condition_in_front 0 xs)) here
    ∙ ap (λ xs. o ++ spaced_after text end (condition_in_front 0 (spans_at end xs))) all
    ∙ ap (λ k. o ++ spaced_after text k (condition_in_front 0 (spans_at k (fun_spans text)))) at

module _ (text : List ℕ) (tokens : List Token) (i : ℕ) (v : Token) (below : i < length tokens) (is : v ≡ get_or tokens i v) where
  abbrev seen : FunSpan
  seen = span_seen text v

  abbrev later : List FunSpan
  later = map (span_seen text) (drop (i + 1) tokens)

  pub here : map (span_seen text) (drop i tokens) ≡ seen ∷ later
  here = ap (map (span_seen text)) (drop_more tokens i v below) ∙ ap (λ z. span_seen text z ∷ later) (sym is)

  front_is : (n : ℕ) (b : Bool) → is_condition_end n seen.token ≡ b → condition_in_front n (map (span_seen text) (drop i tokens)) ≡ cond b [] (seen ∷ condition_in_front (open_after n seen.token) later)
  front_is n b e = ap (condition_in_front n) here ∙ ap (λ z. cond z [] (seen ∷ condition_in_front (open_after n seen.token) later)) e

  pub token_more : (n next end : ℕ) (a b d whole : List ℕ) → is_condition_end n seen.token ≡ false → next ≡ open_after n seen.token
      → a ++ spaced_after text end (condition_in_front n (map (span_seen text) (drop i tokens))) ≡ whole → b ≡ a ++ blank_between end v.from → d ≡ b ++ span_bytes text seen
      → d ++ spaced_after text v.to (condition_in_front next later) ≡ whole
  token_more n next end a b d whole goes opened so_far blank bytes =
      let rest : List ℕ = spaced_after text v.to (condition_in_front (open_after n seen.token) later) in
      ap (λ m. d ++ spaced_after text v.to (condition_in_front m later)) opened
      ∙ ap (λ x. x ++ rest) (bytes ∙ ap (λ x. x ++ span_bytes text seen) blank)
      ∙ append_assoc (a ++ blank_between end v.from) (span_bytes text seen) rest
      ∙ append_assoc a (blank_between end v.from) (span_bytes text seen ++ rest)
      ∙ ap (λ x. a ++ x) (sym (append_assoc (blank_between end v.from) (span_bytes text seen) rest))
      ∙ ap (λ x. a ++ spaced_after text end x) (sym (front_is n false goes))
      ∙ so_far

  pub token_ends : (n end : ℕ) (a whole : List ℕ) → is_condition_end n seen.token ≡ true → a ++ spaced_after text end (condition_in_front n (map (span_seen text) (drop i tokens))) ≡ whole → a ≡ whole
  token_ends n end a whole ends so_far = sym (append-nil a) ∙ ap (λ x. a ++ spaced_after text end x) (sym (front_is n true ends)) ∙ so_far

  pub other_offset : (at : ℕ) → (v.from == at) ≡ false → spans_at at (map (span_seen text) (drop i tokens)) ≡ spans_at at later
  other_offset at e = ap (spans_at at) here ∙ ap (λ z. cond z (seen ∷ later) (spans_at at later)) e

  pub that_offset : (at : ℕ) → (v.from == at) ≡ true → spans_at at (map (span_seen text) (drop i tokens)) ≡ map (span_seen text) (drop i tokens)
  that_offset at e = ap (spans_at at) here ∙ ap (λ z. cond z (seen ∷ later) (spans_at at later)) e ∙ sym here

pub tokens_over : (text : List ℕ) (tokens : List Token) (i n end : ℕ) (a whole : List ℕ) → length tokens ≤ i → a ++ spaced_after text end (condition_in_front n (map (span_seen text) (drop i tokens))) ≡ whole → a ≡ whole
tokens_over text tokens i n end a whole past so_far = sym (append-nil a) ∙ ap (λ xs. a ++ spaced_after text end (condition_in_front n (map (span_seen text) xs))) (sym (drop_all i tokens past)) ∙ so_far
