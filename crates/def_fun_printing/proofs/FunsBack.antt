-- The text that a specification is printed as is a fun that has it.
use Rattle.std.proofs.Common.{◌≡◌, ℕ, ◌+◌, ◌≤◌, nat_le, List, [], ◌∷◌, ◌++◌, length, Bool, true, false, cond, Ok, Err, codes, refl, ap, sym, ◌∙◌, subst, arith, append_assoc, append-nil, length-append, inl}
use Rattle.std.proofs.lemmas.Bool.{and_parts, and_from, cond-true, le-leb, leb-true}
use Rattle.def_term.specs.Tree.{Tree, Trees, none, more, count, elements, of_elements, depth, greatest_depth}
use Rattle.def_term.specs.Tree as term
use Rattle.def_term.specs.Text.{w, comma_list, each_after_comma}
use Rattle.def_text.specs.Limits.{DEPTH, LIST_LENGTH, Fits, sizes_fit, all_sizes_fit}
use Rattle.def_text.specs.Spelling.{LENGTH}
use Rattle.def_text.specs.Writable.{is_writable, are_writable}
use Rattle.def_text.proofs.Complete.{elements-of}
use Rattle.def_spec.specs.Expressions.{Dialect}
use Rattle.def_spec.specs.Outcome.{Clause, Spec}
use Rattle.def_spec.specs.Reading.{badarg, then_read, clause_of, clauses_of, spec_of}
use Rattle.def_fun.specs.Trees.{FunExpr, FunClause}
use Rattle.def_fun.specs.Tokens as token
use Rattle.def_fun.specs.Tokens.{FunSpan, FunTokens}
use Rattle.def_fun.specs.Scan.{fun_span, fun_spans}
use Rattle.def_fun.specs.Grammar.{Piece, anywhere, ArePieces, clause_pieces, clauses_pieces, fun_pieces, is_fun_clause, are_fun_clauses, DerivesFun}
use Rattle.def_fun.specs.Limits.{FUN_DEPTH, CLAUSES, is_sized_clause, are_sized_clauses, spec_clauses, clauses_nesting, FunFits}
use Rattle.def_fun.specs.Reading.{read_fun}
use Rattle.def_fun.specs.Refusals.{too_long, too_large_at, OrRefusal, then_fun}
use Rattle.def_fun.specs.Translation.{list_term, alternative_term, alternatives_of, within_length, with_alternatives, with_fun_clauses, tree_of_fun}
use Rattle.def_fun.specs.Answers.{read_or_refusal, fun_of_text, spec_of_text}
use Rattle.def_fun.specs.FunTexts.{then_clause, joined_with, clause_printed, clauses_printed, CLAUSE_BREAK, fun_text, fun_printed}
use Rattle.def_fun.proofs.TokenSound.{same_fun_tokens}
use Rattle.def_fun.proofs.TokenLists.{listed_are}
use Rattle.def_fun.proofs.Translations.{then_ok}
use Rattle.def_fun_printing.proofs.TextTokens.{Follows, follows_by, one_span, blank_before, semicolon_front, fun_front, end_front}
use Rattle.def_fun_printing.proofs.ExprTexts.{pieces_joined, Spans}
use Rattle.def_fun_printing.proofs.FunReads.{derived_is_read}
use Rattle.def_fun_printing.proofs.ClausesBack.{IsGoodClause, IsClauseBack, clause_back}
use Rattle.def_fun_printing.proofs.Results.{same_ok, no_ok, clause_ok, read_ok}

-- ---- texts and tokens of clauses

abbrev texts_after : List (List ℕ) → List ℕ
texts_after [] = []
texts_after (u ∷ us) = 59 ∷ 10 ∷ 32 ∷ 32 ∷ 32 ∷ (u ++ texts_after us)

joined_after : (u : List ℕ) (us : List (List ℕ)) → joined_with CLAUSE_BREAK (u ∷ us) ≡ u ++ texts_after us
joined_after u [] = sym (append-nil u)
joined_after u (v ∷ us) = ap (λ x. (u ++ CLAUSE_BREAK) ++ x) (joined_after v us) ∙ append_assoc u CLAUSE_BREAK (v ++ texts_after us)

abbrev pieces_after : List FunClause → List Piece
pieces_after [] = []
pieces_after (k ∷ ks) = anywhere token.semicolon ∷ (clause_pieces k ++ pieces_after ks)

joined_pieces : (k : FunClause) (ks : List FunClause) → clauses_pieces (k ∷ ks) ≡ clause_pieces k ++ pieces_after ks
joined_pieces k [] = sym (append-nil (clause_pieces k))
joined_pieces k (l ∷ ks) = ap (λ x. clause_pieces k ++ anywhere token.semicolon ∷ x) (joined_pieces l ks)

-- each clause is back, and each is good
abbrev EachBack : Dialect → Trees → List (List ℕ) → Type 0
EachBack d none us = us ≡ []
EachBack d (more t ts) us = (u : List ℕ) × (vs : List (List ℕ)) × (us ≡ u ∷ vs) × IsClauseBack d t u × EachBack d ts vs

abbrev EachGood : Dialect → Trees → List FunClause → Type 0
EachGood d none ks = ks ≡ []
EachGood d (more t ts) ks = (k : FunClause) × (js : List FunClause) × (ks ≡ k ∷ js) × IsGoodClause d t k × EachGood d ts js

record AreClausesWritten (d : Dialect) (ts : Trees) (at : ℕ) (bytes : List ℕ) (ys : List FunSpan) : Type 0 where
  pub clauses : List FunClause
  pub spans : List FunSpan
  pub tokens : Spans at bytes (spans ++ ys)
  pub pieces : ArePieces (pieces_after clauses) spans
  pub good : EachGood d ts clauses

follows_after : (us : List (List ℕ)) (rest : List ℕ) → Follows rest → Follows (texts_after us ++ rest)
follows_after [] rest f = f
follows_after (u ∷ us) rest f = follows_by 59 (10 ∷ 32 ∷ 32 ∷ 32 ∷ ((u ++ texts_after us) ++ rest)) refl

one_clause : (d : Dialect) (t : Tree) (ts : Trees) (u : List ℕ) (vs : List (List ℕ)) (at : ℕ) (rest : List ℕ) (ys : List FunSpan) → IsClauseBack d t u → Follows (texts_after vs ++ rest) → AreClausesWritten d ts (at + 1 + 1 + 1 + 1 + 1 + length u) (texts_after vs ++ rest) ys → AreClausesWritten d (more t ts) at (texts_after (u ∷ vs) ++ rest) ys
one_clause d t ts u vs at rest ys b f r =
    let k = at + 1 + 1 + 1 + 1 + 1 in
    let bytes = (u ++ texts_after vs) ++ rest in
    let c = b.written k (k + length u) (texts_after vs ++ rest) (r.spans ++ ys) f refl r.tokens in
    let xs = c.spans ++ r.spans in
    let x = fun_span token.semicolon at (at + 1) in
    let inner : Spans k bytes (xs ++ ys) = subst (λ z. Spans k z (xs ++ ys)) (sym (append_assoc u (texts_after vs) rest)) (subst (Spans k (u ++ (texts_after vs ++ rest))) (sym (append_assoc c.spans r.spans ys)) c.tokens) in
    let fourth = blank_before 32 (at + 1 + 1 + 1 + 1) bytes (xs ++ ys) refl refl inner in
    let third = blank_before 32 (at + 1 + 1 + 1) (32 ∷ bytes) (xs ++ ys) refl refl fourth in
    let second = blank_before 32 (at + 1 + 1) (32 ∷ 32 ∷ bytes) (xs ++ ys) refl refl third in
    let first = blank_before 10 (at + 1) (32 ∷ 32 ∷ 32 ∷ bytes) (xs ++ ys) refl refl second in
    record {
      clauses = c.clause ∷ r.clauses;
      spans = x ∷ xs;
      tokens = one_span at (at + 1) (59 ∷ []) (10 ∷ 32 ∷ 32 ∷ 32 ∷ bytes) token.semicolon (xs ++ ys) (semicolon_front (10 ∷ 32 ∷ 32 ∷ 32 ∷ bytes)) refl first;
      pieces = (refl, pieces_joined (clause_pieces c.clause) (pieces_after r.clauses) c.spans r.spans c.pieces r.pieces);
      good = (c.clause, r.clauses, refl, c.good, r.good);
    }

rest_clauses : (d : Dialect) (ts : Trees) (us : List (List ℕ)) (at to : ℕ) (rest : List ℕ) (ys : List FunSpan) → EachBack d ts us → Follows rest → to ≡ at + length (texts_after us) → Spans to rest ys → AreClausesWritten d ts at (texts_after us ++ rest) ys
rest_clauses d none us at to rest ys h f is m =
    let start : to ≡ at = omega (arith, is, ap (λ vs. length (texts_after vs)) h) in
    subst (λ vs. AreClausesWritten d none at (texts_after vs ++ rest) ys) (sym h) (record { clauses = []; spans = []; tokens = subst (λ n. Spans n rest ys) start m; pieces = refl; good = refl })
rest_clauses d (more t ts) us at to rest ys h f is m =
    let u = h.0 in
    let vs = h.1 in
    let size = ap (λ xs. length (texts_after xs)) h.2 in
    let joined = length-append u (texts_after vs) in
    let later = rest_clauses d ts vs (at + 1 + 1 + 1 + 1 + 1 + length u) to rest ys h.4 f (omega (arith, is, size, joined)) m in
    subst (λ xs. AreClausesWritten d (more t ts) at (texts_after xs ++ rest) ys) (sym h.2) (one_clause d t ts u vs at rest ys h.3 (follows_after vs rest f) later)

-- ---- the whole text

record IsFunWritten (d : Dialect) (ts : Trees) (text : List ℕ) : Type 0 where
  pub clauses : List FunClause
  pub spans : List FunSpan
  pub tokens : FunTokens text spans
  pub pieces : ArePieces (fun_pieces clauses) spans
  pub good : EachGood d ts clauses

whole_text : (u : List ℕ) (us : List (List ℕ)) → fun_text (u ∷ us) ≡ codes "fun" ++ (u ++ (texts_after us ++ codes " end"))
whole_text u us =
    ap (λ x. (codes "fun" ++ x) ++ codes " end") (joined_after u us)
    ∙ append_assoc (codes "fun") (u ++ texts_after us) (codes " end")
    ∙ ap (λ x. codes "fun" ++ x) (append_assoc u (texts_after us) (codes " end"))

fun_written : (d : Dialect) (t : Tree) (ts : Trees) (us : List (List ℕ)) → EachBack d (more t ts) us → IsFunWritten d (more t ts) (fun_text us)
fun_written d t ts us h =
    let u = h.0 in
    let vs = h.1 in
    let b = h.3 in
    let mid = 3 + length u in
    let to = mid + length (texts_after vs) in
    let x = fun_span token.end_word (to + 1) (to + 1 + 3) in
    let ending : Spans to (codes " end") (x ∷ []) = blank_before 32 to (codes "end") (x ∷ []) refl refl (one_span (to + 1) (to + 1 + 3) (codes "end") [] token.end_word [] end_front refl refl) in
    let follows : Follows (codes " end") = follows_by 32 (codes "end") refl in
    let r = rest_clauses d ts vs mid to (codes " end") (x ∷ []) h.4 follows refl ending in
    let c = b.written 3 mid (texts_after vs ++ codes " end") (r.spans ++ x ∷ []) (follows_after vs (codes " end") follows) refl r.tokens in
    let y = fun_span token.fun_word 0 3 in
    let bytes = texts_after vs ++ codes " end" in
    let begins : u ++ bytes ≡ 40 ∷ (b.after ++ bytes) = ap (λ z. z ++ bytes) b.begins in
    let zs = c.spans ++ (r.spans ++ x ∷ []) in
    let whole : Spans 0 (codes "fun" ++ (u ++ bytes)) (y ∷ zs) =
    subst (λ z. Spans 0 (codes "fun" ++ z) (y ∷ zs)) (sym begins) (one_span 0 3 (codes "fun") (40 ∷ (b.after ++ bytes)) token.fun_word zs (fun_front (b.after ++ bytes)) refl (subst (λ z. Spans 3 z zs) begins c.tokens)) in
    let ks = c.clause ∷ r.clauses in
    let pieces : ArePieces (clauses_pieces ks) (c.spans ++ r.spans) = subst (λ ps. ArePieces ps (c.spans ++ r.spans)) (sym (joined_pieces c.clause r.clauses)) (pieces_joined (clause_pieces c.clause) (pieces_after r.clauses) c.spans r.spans c.pieces r.pieces) in
    record {
      clauses = ks;
      spans = y ∷ ((c.spans ++ r.spans) ++ x ∷ []);
      tokens =
          subst (λ z. FunTokens z (y ∷ ((c.spans ++ r.spans) ++ x ∷ []))) (sym (ap fun_text h.2 ∙ whole_text u vs))
          (subst (λ us. FunTokens (codes "fun" ++ (u ++ bytes)) (y ∷ us)) (sym (append_assoc c.spans r.spans (x ∷ []))) whole);
      pieces = (refl, pieces_joined (clauses_pieces ks) (anywhere token.end_word ∷ []) (c.spans ++ r.spans) (x ∷ []) pieces (refl, refl));
      good = (c.clause, r.clauses, refl, c.good, r.good);
    }

-- ---- what the clauses are

record AreGood (ts : Trees) (ks : List FunClause) : Type 0 where
  pub sized : are_sized_clauses ks ≡ true
  pub deep : clauses_nesting ks ≤ FUN_DEPTH
  pub counted : spec_clauses ks ≡ count ts

good_clauses : (d : Dialect) (ts : Trees) (ks : List FunClause) → EachGood d ts ks → AreGood ts ks
good_clauses d none ks h = subst (AreGood none) (sym h) (record { sized = refl; deep = omega arith; counted = refl })
good_clauses d (more t ts) ks h =
    let k = h.0 in
    let g = h.3 in
    let r = good_clauses d ts h.1 h.4 in
    let deep = g.deep in
    let more_deep = r.deep in
    let counted = g.counted in
    let more_counted = r.counted in
    subst (AreGood (more t ts)) (sym h.2)
    (record {
      sized = and_from (is_sized_clause k) (are_sized_clauses h.1) g.sized r.sized;
      deep = omega (arith, deep, more_deep);
      counted = omega (arith, counted, more_counted);
    })

are_clauses : (d : Dialect) (t : Tree) (ts : Trees) (ks : List FunClause) → EachGood d (more t ts) ks → are_fun_clauses ks ≡ true
are_clauses d t none ks h =
    let one : ks ≡ h.0 ∷ [] = h.2 ∙ ap (λ js. h.0 ∷ js) h.4 in
    ap are_fun_clauses one ∙ h.3.is
are_clauses d t (more u ts) ks h =
    let later = are_clauses d u ts h.1 h.4 in
    let two : ks ≡ h.0 ∷ h.4.0 ∷ h.4.1 = h.2 ∙ ap (λ js. h.0 ∷ js) h.4.2 in
    ap are_fun_clauses two ∙ and_from (is_fun_clause h.0) (are_fun_clauses (h.4.0 ∷ h.4.1)) h.3.is (sym (ap are_fun_clauses h.4.2) ∙ later)

-- ---- the specification's text

after_shorter : (ts us : List Tree) → length (each_after_comma (of_elements ts)) ≤ length (each_after_comma (of_elements (ts ++ us)))
after_shorter [] us = omega arith
after_shorter (t ∷ ts) us = let later = after_shorter ts us in omega (arith, later, length-append (w t) (each_after_comma (of_elements ts)), length-append (w t) (each_after_comma (of_elements (ts ++ us))))

list_shorter : (ts us : List Tree) → length (comma_list (of_elements ts)) ≤ length (comma_list (of_elements (ts ++ us)))
list_shorter [] us = omega arith
list_shorter (t ∷ ts) us = let later = after_shorter ts us in omega (arith, later, length-append (w t) (each_after_comma (of_elements ts)), length-append (w t) (each_after_comma (of_elements (ts ++ us))))

-- the text of the first clauses is no longer than that of all
text_shorter : (ts us : List Tree) → length (w (list_term ts)) ≤ length (w (list_term (ts ++ us)))
text_shorter ts us =
    let less = list_shorter ts us in
    omega (arith, less, length-append (comma_list (of_elements ts)) (93 ∷ []), length-append (comma_list (of_elements (ts ++ us))) (93 ∷ []))

clauses_terms : (d : Dialect) (ts : Trees) (ks : List FunClause) (earlier : List Tree) → EachGood d ts ks → length (w (list_term (earlier ++ elements ts))) ≤ LENGTH → with_fun_clauses d earlier ks ≡ Ok (earlier ++ elements ts)
clauses_terms d none ks earlier h short = ap (with_fun_clauses d earlier) h ∙ ap (λ us. Ok us) (sym (append-nil earlier))
clauses_terms d (more t ts) ks earlier h short =
    let k = h.0 in
    let g = h.3 in
    let us = earlier ++ t ∷ [] in
    let joined : us ++ elements ts ≡ earlier ++ t ∷ elements ts = append_assoc earlier (t ∷ []) (elements ts) in
    let all_short : length (w (list_term (us ++ elements ts))) ≤ LENGTH = subst (λ vs. length (w (list_term vs)) ≤ LENGTH) (sym joined) short in
    let less = text_shorter us (elements ts) in
    let here : with_alternatives d k earlier (alternatives_of k.guards) ≡ Ok us =
    ap (with_alternatives d k earlier) g.only
    ∙ ap (λ z. then_fun z (λ x. then_fun (within_length k.at (earlier ++ x ∷ [])) (λ vs. Ok vs))) g.back
    ∙ ap (λ z. then_fun z (λ vs. Ok vs)) (cond-true (nat_le (length (w (list_term us))) LENGTH) (Ok us) (Err (too_large_at k.at)) (le-leb (length (w (list_term us))) LENGTH (omega (arith, less, all_short)))) in
    ap (with_fun_clauses d earlier) h.2 ∙ ap (λ z. then_fun z (λ vs. with_fun_clauses d vs h.1)) here ∙ clauses_terms d ts h.1 us h.4 all_short ∙ ap (λ vs. Ok vs) joined

-- ---- the law

each_back : (d : Dialect) (n : ℕ) (ts : Trees) (us : List (List ℕ)) (ks : List Clause) → clauses_printed d n ts ≡ Ok us → clauses_of d ts ≡ Ok ks → are_writable ts ≡ true → all_sizes_fit ts ≡ true → greatest_depth ts ≤ 31 → EachBack d ts us
each_back d n none us ks p r v s low = sym (same_ok [] us p)
each_back d n (more t ts) us ks p r v s low =
    let writable = and_parts (is_writable t) (are_writable ts) v in
    let sizes = and_parts (sizes_fit t) (all_sizes_fit ts) s in
    let a = clause_ok (clause_printed d n t) (λ u. then_clause (clauses_printed d (n + 1) ts) (λ xs. Ok (u ∷ xs))) us p in
    let b = clause_ok (clauses_printed d (n + 1) ts) (λ xs. Ok (a.0 ∷ xs)) us a.2 in
    let c = read_ok (clause_of d t) (λ k. then_read (clauses_of d ts) (λ xs. Ok (k ∷ xs))) ks r in
    let e = read_ok (clauses_of d ts) (λ xs. Ok (c.0 ∷ xs)) ks c.2 in
    (a.0, b.0, sym (same_ok (a.0 ∷ b.0) us b.2), clause_back d n t a.0 c.0 a.1 c.1 writable.0 sizes.0 (omega (arith, low)), each_back d (n + 1) ts b.0 e.0 b.1 e.1 writable.1 sizes.1 (omega (arith, low)))

written_is_read : (d : Dialect) (t : Tree) (ts : Trees) (text : List ℕ) → IsFunWritten d (more t ts) text → nat_le (count (more t ts)) LIST_LENGTH ≡ true → length text ≤ LENGTH → length (w (term.list (more t ts))) ≤ LENGTH → spec_of_text d text ≡ Ok (term.list (more t ts))
written_is_read d t ts text f size short spec_short =
    let ks = f.clauses in
    let g = good_clauses d (more t ts) ks f.good in
    let counted = g.counted in
    let few = leb-true (count (more t ts)) LIST_LENGTH size in
    let derives : DerivesFun f.spans ks = record { tokens = inl f.pieces; clauses = are_clauses d t ts ks f.good } in
    let fits : FunFits FUN_DEPTH true ks = record { nests = g.deep; sizes = and_from (are_sized_clauses ks) (nat_le (spec_clauses ks) CLAUSES) g.sized (le-leb (spec_clauses ks) CLAUSES (omega (arith, counted, few))) } in
    let spans : fun_spans text ≡ f.spans = same_fun_tokens text (fun_spans text) f.spans (listed_are text) f.tokens in
    let read : read_fun FUN_DEPTH true (fun_spans text) ≡ Ok ks = ap (read_fun FUN_DEPTH true) spans ∙ derived_is_read FUN_DEPTH f.spans ks derives fits in
    let fun_is : fun_of_text text ≡ Ok ks = cond-true (nat_le (length text) LENGTH) _ _ (le-leb (length text) LENGTH short) ∙ ap (read_or_refusal (length text)) read in
    let terms = elements-of (more t ts) in
    let tree_is : tree_of_fun d ks ≡ Ok (term.list (more t ts)) =
    ap (λ z. then_fun z (λ us. Ok (list_term us))) (clauses_terms d (more t ts) ks [] f.good (subst (λ us. length (w (term.list us)) ≤ LENGTH) (sym terms) spec_short)) ∙ ap (λ us. Ok (term.list us)) terms in
    ap (λ z. then_fun z (λ js. tree_of_fun d js)) fun_is ∙ tree_is

pub printed_is_a_fun : (d : Dialect) (t : Tree) (s : Spec) (text : List ℕ) → spec_of d t ≡ Ok s → is_writable t ≡ true → Fits DEPTH true t → length (w t) ≤ LENGTH → fun_printed d t ≡ Ok text → length text ≤ LENGTH → spec_of_text d text ≡ Ok t
printed_is_a_fun d (term.list (more t ts)) s text r v fits spec_short p short =
    let a = clause_ok (clauses_printed d 1 (more t ts)) (λ us. Ok (fun_text us)) text p in
    let c = read_ok (clauses_of d (more t ts)) (λ ks. Ok (record { dialect = d; clauses = ks })) s r in
    let sizes = and_parts (nat_le (count (more t ts)) LIST_LENGTH) (all_sizes_fit (more t ts)) fits.sizes in
    let nests = fits.nests in
    let back = each_back d 1 (more t ts) a.0 c.0 a.1 c.1 v sizes.1 (omega (arith, nests)) in
    let is = same_ok (fun_text a.0) text a.2 in
    written_is_read d t ts text (subst (IsFunWritten d (more t ts)) is (fun_written d t ts a.0 back)) sizes.0 short spec_short
printed_is_a_fun d (term.list none) s text r v fits spec_short p short = absurd (no_ok badarg s r)
printed_is_a_fun d (term.int z) s text r v fits spec_short p short = absurd (no_ok badarg s r)
printed_is_a_fun d (term.atom a) s text r v fits spec_short p short = absurd (no_ok badarg s r)
printed_is_a_fun d (term.pid n) s text r v fits spec_short p short = absurd (no_ok badarg s r)
printed_is_a_fun d (term.tuple ts) s text r v fits spec_short p short = absurd (no_ok badarg s r)

-- ---- the limit on the specification's text

length_by : (b : Bool) (at : ℕ) (ts us : List Tree) → nat_le (length (w (list_term ts))) LENGTH ≡ b → cond b (Ok ts) (Err (too_large_at at)) ≡ Ok us → length (w (list_term us)) ≤ LENGTH
length_by true at ts us e h = subst (λ vs. length (w (list_term vs)) ≤ LENGTH) (same_ok ts us h) (leb-true (length (w (list_term ts))) LENGTH e)
length_by false at ts us e h = absurd (cc)

alternatives_short : (d : Dialect) (k : FunClause) (gs : List (List FunExpr)) (ts us : List Tree) → length (w (list_term ts)) ≤ LENGTH → with_alternatives d k ts gs ≡ Ok us → length (w (list_term us)) ≤ LENGTH
alternatives_short d k [] ts us short h = subst (λ vs. length (w (list_term vs)) ≤ LENGTH) (same_ok ts us h) short
alternatives_short d k (g ∷ gs) ts us short h =
    let a = then_ok (alternative_term d k g) (λ t. then_fun (within_length k.at (ts ++ t ∷ [])) (λ vs. with_alternatives d k vs gs)) us h in
    let b = then_ok (within_length k.at (ts ++ a.0 ∷ [])) (λ vs. with_alternatives d k vs gs) us a.2 in
    alternatives_short d k gs b.0 us (length_by (nat_le (length (w (list_term (ts ++ a.0 ∷ [])))) LENGTH) k.at (ts ++ a.0 ∷ []) b.0 refl b.1) b.2

fun_clauses_short : (d : Dialect) (ks : List FunClause) (ts us : List Tree) → length (w (list_term ts)) ≤ LENGTH → with_fun_clauses d ts ks ≡ Ok us → length (w (list_term us)) ≤ LENGTH
fun_clauses_short d [] ts us short h = subst (λ vs. length (w (list_term vs)) ≤ LENGTH) (same_ok ts us h) short
fun_clauses_short d (k ∷ ks) ts us short h =
    let a = then_ok (with_alternatives d k ts (alternatives_of k.guards)) (λ vs. with_fun_clauses d vs ks) us h in
    fun_clauses_short d ks a.0 us (alternatives_short d k (alternatives_of k.guards) ts a.0 short a.1) a.2

fun_is_short : (d : Dialect) (ks : List FunClause) (t : Tree) → tree_of_fun d ks ≡ Ok t → length (w t) ≤ LENGTH
fun_is_short d ks t h =
    let a = then_ok (with_fun_clauses d [] ks) (λ ts. Ok (list_term ts)) t h in
    subst (λ u. length (w u) ≤ LENGTH) (same_ok (list_term a.0) t a.2) (fun_clauses_short d ks [] a.0 (omega arith) a.1)

long_by : (b : Bool) (r : OrRefusal (List FunClause)) (ks : List FunClause) → cond b r (Err too_long) ≡ Ok ks → b ≡ true
long_by true r ks h = refl
long_by false r ks h = absurd (cc)

pub texts_are_short : (d : Dialect) (bytes : List ℕ) (t : Tree) → spec_of_text d bytes ≡ Ok t → (length bytes ≤ LENGTH) × (length (w t) ≤ LENGTH)
texts_are_short d bytes t h = let a = then_ok (fun_of_text bytes) (λ ks. tree_of_fun d ks) t h in (leb-true (length bytes) LENGTH (long_by (nat_le (length bytes) LENGTH) _ a.0 a.1), fun_is_short d a.0 t a.2)
