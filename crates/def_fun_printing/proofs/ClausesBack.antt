-- The text of a clause spells a clause that is translated to the term.
use Rattle.std.proofs.Common.{◌≡◌, ℕ, ◌+◌, ◌≤◌, max, nat_le, List, [], ◌∷◌, ◌++◌, length, true, false, ◌&&◌, None, Ok, Err, codes, refl, ap, ap₂, sym, ◌∙◌, subst, arith, append_assoc, length-append}
use Rattle.std.proofs.lemmas.Bool.{and_parts, and_from, cond-true, le-leb}
use Rattle.def_term.specs.Tree.{Tree, Trees, none, more, count, elements, of_elements, triple, depth, greatest_depth}
use Rattle.def_term.specs.Tree as term
use Rattle.def_text.specs.Limits.{LIST_LENGTH, sizes_fit, all_sizes_fit}
use Rattle.def_text.specs.Writable.{is_writable, are_writable}
use Rattle.def_text.proofs.Complete.{elements-of}
use Rattle.def_spec.specs.Expressions.{Dialect, in_condition, in_body}
use Rattle.def_spec.specs.Outcome.{Clause}
use Rattle.def_spec.specs.Reading.{badarg, head_of, exprs_of, clause_of_parts, clause_of}
use Rattle.def_fun.specs.Trees as tree
use Rattle.def_fun.specs.Trees.{FunExpr, FunExprs, each_expr, first_byte, nesting_depth, is_variable_expr, is_list_pattern, FunHead, alone, FunClause}
use Rattle.def_fun.specs.Tokens as token
use Rattle.def_fun.specs.Tokens.{FunToken, FunStands, FunSpan}
use Rattle.def_fun.specs.Scan.{fun_span}
use Rattle.def_fun.specs.Grammar.{anywhere, ArePieces, expr_pieces, pieces_of, has_one, has_level, is_fun_head, is_level_head, comma_pieces, when_pieces, clause_pieces, are_exprs, are_guards, is_fun_clause}
use Rattle.def_fun.specs.Limits.{FUN_DEPTH, is_sized, is_sized_row, are_sized_guards, is_sized_clause, clause_count, head_nesting, row_nesting, guards_nesting}
use Rattle.def_fun.specs.Refusals.{too_deep_at, then_fun}
use Rattle.def_fun.specs.Variables.{names_of, variables_in, with_names}
use Rattle.def_fun.specs.Translation.{HEAD_DEPTH, PART_DEPTH, within_depth, pattern_term, head_term, part_terms, list_term, alternative_term, alternatives_of}
use Rattle.def_fun.specs.FunTexts.{then_print, expr_of_term, the_head, the_condition, the_expression, PrintedPattern, head_of_term, exprs_of_terms, reason_at, then_clause, joined_with, expr_text, expr_texts, parts_printed, when_text, body_printed, clause_of_parts_printed, clause_printed}
use Rattle.def_fun_printing.proofs.Offsets.{unplaced, unplaced_each, level_same, nesting_same, sized_same, pattern_same, patterns_same, variables_same, pattern_alike}
use Rattle.def_fun_printing.proofs.TextTokens.{Follows, follows_by, one_span, blank_before, open_paren_front, close_paren_front, arrow_front, when_front}
use Rattle.def_fun_printing.proofs.ExprTexts.{HasText, HaveText, texts_of, joined_texts, pieces_joined, Spans, written, all_written}
use Rattle.def_fun_printing.proofs.ExprsBack.{row_back, rows_of}
use Rattle.def_fun_printing.proofs.HeadsBack.{names_to, names_up_to, head_back}
use Rattle.def_fun_printing.proofs.RowsBack.{reason_ok, parts_ok, row_pieces, IsFineRow, fine_row, row_terms}
use Rattle.def_fun_printing.proofs.Results.{same_ok, no_ok, print_ok, clause_ok, read_ok}

-- the conditions as guards: one, or none where there are no conditions
abbrev pub guards_of : FunExprs → List (List FunExpr)
guards_of tree.none = []
guards_of (tree.more e es) = each_expr (tree.more e es) ∷ []

-- a clause of a fun that is one clause of a specification, within the limits
pub record IsGoodClause (d : Dialect) (t : Tree) (k : FunClause) : Type 0 where
  pub is : is_fun_clause k ≡ true
  pub sized : is_sized_clause k ≡ true
  pub deep : max (head_nesting k.head) (max (guards_nesting k.guards) (row_nesting k.body)) ≤ FUN_DEPTH
  pub counted : clause_count k ≡ 1
  pub row : List FunExpr
  pub only : alternatives_of k.guards ≡ row ∷ []
  pub back : alternative_term d k row ≡ Ok t

-- its text, with its tokens
pub record IsClauseWritten (d : Dialect) (t : Tree) (at : ℕ) (bytes : List ℕ) (ys : List FunSpan) : Type 0 where
  pub clause : FunClause
  pub spans : List FunSpan
  pub tokens : Spans at bytes (spans ++ ys)
  pub pieces : ArePieces (clause_pieces clause) spans
  pub good : IsGoodClause d t clause

-- a text that is so wherever it is
pub record IsClauseBack (d : Dialect) (t : Tree) (u : List ℕ) : Type 0 where
  pub after : List ℕ
  pub begins : u ≡ 40 ∷ after
  pub written : (at to : ℕ) (rest : List ℕ) (ys : List FunSpan) → Follows rest → to ≡ at + length u → Spans to rest ys → IsClauseWritten d t at (u ++ rest) ys

-- ---- the parts of the text

-- the arrow, and what comes after it
arrow_spans : (at : ℕ) (bytes : List ℕ) (xs : List FunSpan) → Spans (at + 4) bytes xs → Spans at (32 ∷ 45 ∷ 62 ∷ 32 ∷ bytes) (fun_span token.arrow (at + 1) (at + 1 + 2) ∷ xs)
arrow_spans at bytes xs h =
    let after = blank_before 32 (at + 1 + 2) bytes xs refl refl (subst (λ n. Spans n bytes xs) (let e : at + 4 ≡ at + 1 + 2 + 1 = omega arith in e) h) in
    blank_before 32 at (45 ∷ 62 ∷ 32 ∷ bytes) (fun_span token.arrow (at + 1) (at + 1 + 2) ∷ xs) refl refl (one_span (at + 1) (at + 1 + 2) (45 ∷ 62 ∷ []) (32 ∷ bytes) token.arrow xs (arrow_front bytes) refl after)

-- the guard, where there are conditions
abbrev guard_text : FunExprs → List ℕ
guard_text tree.none = []
guard_text (tree.more e es) = 32 ∷ 119 ∷ 104 ∷ 101 ∷ 110 ∷ 32 ∷ texts_of (tree.more e es)

record IsGuardWritten (at : ℕ) (bytes : List ℕ) (ys : List FunSpan) (es : FunExprs) : Type 0 where
  pub exprs : FunExprs
  pub spans : List FunSpan
  pub tokens : Spans at bytes (spans ++ ys)
  pub pieces : ArePieces (when_pieces (guards_of exprs)) spans
  pub same : unplaced_each exprs ≡ unplaced_each es

guard_pieces_of : (es : FunExprs) (x : FunSpan) (xs : List FunSpan) → has_one es ≡ true → x.token ≡ token.when_word → ArePieces (pieces_of es) xs → ArePieces (when_pieces (guards_of es)) (x ∷ xs)
guard_pieces_of tree.none x xs one t h = absurd (let no : false ≡ true = one in cc)
guard_pieces_of (tree.more e es) x xs one t h = (t, subst (λ ps. ArePieces ps xs) (sym (row_pieces (tree.more e es))) h)

one_there : (es fs : FunExprs) → unplaced_each es ≡ unplaced_each fs → has_one fs ≡ true → has_one es ≡ true
one_there (tree.more e es) fs h one = refl
one_there tree.none tree.none h one = one
one_there tree.none (tree.more f fs) h one = absurd (let no : tree.none ≡ tree.more (unplaced f) (unplaced_each fs) = h in cc)

guard_written : (es : FunExprs) (at to : ℕ) (rest : List ℕ) (ys : List FunSpan) → HaveText es → to ≡ at + length (guard_text es) → Spans to (32 ∷ rest) ys → IsGuardWritten at (guard_text es ++ 32 ∷ rest) ys es
guard_written tree.none at to rest ys h is m = record { exprs = tree.none; spans = []; tokens = subst (λ n. Spans n (32 ∷ rest) ys) (let e : to ≡ at = omega (arith, is) in e) m; pieces = refl; same = refl }
guard_written (tree.more e es) at to rest ys h is m =
    let u = texts_of (tree.more e es) in
    let w = all_written (tree.more e es) (at + 1 + 4 + 1) to (32 ∷ rest) ys h (follows_by 32 rest refl) (omega (arith, is)) m in
    let x = fun_span token.when_word (at + 1) (at + 1 + 4) in
    let after = blank_before 32 (at + 1 + 4) (u ++ 32 ∷ rest) (w.spans ++ ys) refl refl w.tokens in
    record {
      exprs = w.exprs;
      spans = x ∷ w.spans;
      tokens = blank_before 32 at (119 ∷ 104 ∷ 101 ∷ 110 ∷ 32 ∷ (u ++ 32 ∷ rest)) (x ∷ (w.spans ++ ys)) refl refl (one_span (at + 1) (at + 1 + 4) (codes "when") (32 ∷ (u ++ 32 ∷ rest)) token.when_word (w.spans ++ ys) (when_front (u ++ 32 ∷ rest)) refl after);
      pieces = guard_pieces_of w.exprs x w.spans (one_there w.exprs (tree.more e es) w.same refl) refl w.pieces;
      same = w.same;
    }

when_is : (es : FunExprs) → when_text (expr_texts es) ≡ guard_text es
when_is tree.none = refl
when_is (tree.more e es) = ap (λ u. codes " when " ++ u) (joined_texts (tree.more e es))

-- ---- the whole clause

abbrev parts_text : List ℕ → List ℕ → List ℕ → List ℕ
parts_text h g b = codes "(" ++ h ++ codes ")" ++ g ++ codes " -> " ++ b

parts_joined : (h g b rest : List ℕ) → parts_text h g b ++ rest ≡ 40 ∷ (h ++ 41 ∷ (g ++ 32 ∷ 45 ∷ 62 ∷ 32 ∷ (b ++ rest)))
parts_joined h g b rest =
    ap (λ x. 40 ∷ x)
    (append_assoc (((h ++ 41 ∷ []) ++ g) ++ codes " -> ") b rest
    ∙ append_assoc ((h ++ 41 ∷ []) ++ g) (codes " -> ") (b ++ rest)
    ∙ append_assoc (h ++ 41 ∷ []) g (32 ∷ 45 ∷ 62 ∷ 32 ∷ (b ++ rest))
    ∙ append_assoc h (41 ∷ []) (g ++ 32 ∷ 45 ∷ 62 ∷ 32 ∷ (b ++ rest)))

parts_length : (h g b : List ℕ) → length (parts_text h g b) ≡ 1 + length h + 1 + length g + 4 + length b
parts_length h g b =
    let a = length-append (codes "(" ++ h ++ codes ")" ++ g ++ codes " -> ") b in
    let c = length-append (codes "(" ++ h ++ codes ")" ++ g) (codes " -> ") in
    let e = length-append (codes "(" ++ h ++ codes ")") g in
    let f = length-append (codes "(" ++ h) (codes ")") in
    omega (arith, a, c, e, f)

-- the tokens of a clause whose head, conditions and body are these
record IsPartsWritten (at : ℕ) (bytes : List ℕ) (ys : List FunSpan) (e : FunExpr) (cs bs : FunExprs) : Type 0 where
  pub head : FunExpr
  pub conditions : FunExprs
  pub body : FunExprs
  pub spans : List FunSpan
  pub tokens : Spans at bytes (spans ++ ys)
  pub pieces : ArePieces (clause_pieces (record { at = at; head = alone head; guards = guards_of conditions; body = each_expr body })) spans
  pub head_same : unplaced head ≡ unplaced e
  pub conditions_same : unplaced_each conditions ≡ unplaced_each cs
  pub body_same : unplaced_each body ≡ unplaced_each bs

regroup : (a b c : List FunSpan) (x y : FunSpan) (zs : List FunSpan) → (a ++ x ∷ (b ++ y ∷ c)) ++ zs ≡ a ++ x ∷ (b ++ y ∷ (c ++ zs))
regroup a b c x y zs = append_assoc a (x ∷ (b ++ y ∷ c)) zs ∙ ap (λ us. a ++ x ∷ us) (append_assoc b (y ∷ c) zs)

parts_written : (e : FunExpr) (cs bs : FunExprs) (at to : ℕ) (rest : List ℕ) (ys : List FunSpan) → HasText e → HaveText cs → HaveText bs → Follows rest → to ≡ at + length (parts_text (expr_text e) (guard_text cs) (texts_of bs)) → Spans to rest ys → IsPartsWritten at (parts_text (expr_text e) (guard_text cs) (texts_of bs) ++ rest) ys e cs bs
parts_written e cs bs at to rest ys he hc hb f is m =
    let h = expr_text e in
    let g = guard_text cs in
    let b = texts_of bs in
    let size = parts_length h g b in
    let close = at + 1 + length h in
    let arrow = close + 1 + length g in
    let body = all_written bs (arrow + 4) to rest ys hb f (omega (arith, is, size)) m in
    let x = fun_span token.arrow (arrow + 1) (arrow + 1 + 2) in
    let after_arrow = arrow_spans arrow (b ++ rest) (body.spans ++ ys) body.tokens in
    let guard = guard_written cs (close + 1) arrow (45 ∷ 62 ∷ 32 ∷ (b ++ rest)) (x ∷ (body.spans ++ ys)) hc refl after_arrow in
    let y = fun_span token.close_paren close (close + 1) in
    let closing = one_span close (close + 1) (41 ∷ []) (g ++ 32 ∷ 45 ∷ 62 ∷ 32 ∷ (b ++ rest)) token.close_paren (guard.spans ++ x ∷ (body.spans ++ ys)) (close_paren_front (g ++ 32 ∷ 45 ∷ 62 ∷ 32 ∷ (b ++ rest))) refl guard.tokens in
    let head = written e (at + 1) close (41 ∷ (g ++ 32 ∷ 45 ∷ 62 ∷ 32 ∷ (b ++ rest))) (y ∷ (guard.spans ++ x ∷ (body.spans ++ ys))) he (follows_by 41 (g ++ 32 ∷ 45 ∷ 62 ∷ 32 ∷ (b ++ rest)) refl) refl closing in
    let z = fun_span token.open_paren at (at + 1) in
    let all_bytes = h ++ 41 ∷ (g ++ 32 ∷ 45 ∷ 62 ∷ 32 ∷ (b ++ rest)) in
    let opening = one_span at (at + 1) (40 ∷ []) all_bytes token.open_paren (head.spans ++ y ∷ (guard.spans ++ x ∷ (body.spans ++ ys))) (open_paren_front all_bytes) refl head.tokens in
    record {
      head = head.expr;
      conditions = guard.exprs;
      body = body.exprs;
      spans = z ∷ (head.spans ++ y ∷ (guard.spans ++ x ∷ body.spans));
      tokens = subst (λ us. Spans at us ((z ∷ (head.spans ++ y ∷ (guard.spans ++ x ∷ body.spans))) ++ ys)) (sym (parts_joined h g b rest)) (subst (λ us. Spans at (40 ∷ all_bytes) (z ∷ us)) (sym (regroup head.spans guard.spans body.spans y x ys)) opening);
      pieces = (
        (refl, refl),
        pieces_joined (expr_pieces head.expr) (anywhere token.close_paren ∷ (when_pieces (guards_of guard.exprs) ++ anywhere token.arrow ∷ comma_pieces (each_expr body.exprs))) head.spans (y ∷ (guard.spans ++ x ∷ body.spans)) head.pieces
            (refl, pieces_joined (when_pieces (guards_of guard.exprs)) (anywhere token.arrow ∷ comma_pieces (each_expr body.exprs)) guard.spans (x ∷ body.spans) guard.pieces (refl, subst (λ ps. ArePieces ps body.spans) (sym (row_pieces body.exprs)) body.pieces)),
      );
      head_same = head.same;
      conditions_same = guard.same;
      body_same = body.same;
    }

-- ---- what the clause is

guards_level : (es : FunExprs) → IsFineRow es → are_guards (guards_of es) ≡ true
guards_level tree.none r = refl
guards_level (tree.more e es) r = and_from (are_exprs (each_expr (tree.more e es))) true (r.levels refl) refl

guards_sized : (es : FunExprs) → IsFineRow es → are_sized_guards (guards_of es) ≡ true
guards_sized tree.none r = refl
guards_sized (tree.more e es) r = and_from (is_sized_row (each_expr (tree.more e es))) true r.sized refl

guards_depth : (es : FunExprs) → IsFineRow es → guards_nesting (guards_of es) ≤ 59
guards_depth tree.none r = omega arith
guards_depth (tree.more e es) r = let deep = r.deep in omega (arith, deep)

guards_counted : (es : FunExprs) → max 1 (length (guards_of es)) ≡ 1
guards_counted tree.none = refl
guards_counted (tree.more e es) = refl

guards_only : (es : FunExprs) → alternatives_of (guards_of es) ≡ each_expr es ∷ []
guards_only tree.none = refl
guards_only (tree.more e es) = refl

head_unplaced : (e : FunExpr) → is_fun_head (alone e) ≡ is_fun_head (alone (unplaced e))
head_unplaced (tree.variable at s) = refl
head_unplaced (tree.whole at n) = refl
head_unplaced (tree.atom at s) = refl
head_unplaced (tree.strings at s ss) = refl
head_unplaced (tree.in_parens at e) = refl
head_unplaced (tree.call at s es) = refl
head_unplaced (tree.list at es) = sym (patterns_same es)
head_unplaced (tree.list_onto at es e) = sym (ap₂ (λ a b. a && b) (patterns_same es) (pattern_same e))
head_unplaced (tree.tuple at es) = refl
head_unplaced (tree.before at o e) = refl
head_unplaced (tree.between at o l r) = refl

-- a head without its offsets
same_head : (e f : FunExpr) → unplaced e ≡ f → is_fun_head (alone e) ≡ is_fun_head (alone f)
same_head e f h = head_unplaced e ∙ ap (λ x. is_fun_head (alone x)) h

-- the names of a head that is that one but for its offsets
head_names : (e f : FunExpr) (n : ℕ) → unplaced e ≡ f → with_names None [] (variables_in f) ≡ names_to n → names_of (alone e) ≡ names_up_to n
head_names e f n same names = ap (λ ns. record { of_whole = None; numbers = ns }) (ap (with_names None []) (sym (variables_same e) ∙ ap variables_in same) ∙ names)

head_terms : (e f : FunExpr) (t : Tree) (n : ℕ) → unplaced e ≡ f → names_of (alone e) ≡ names_up_to n → pattern_term (names_up_to n) f ≡ Ok t → depth t ≤ HEAD_DEPTH → head_term (alone e) ≡ Ok t
head_terms e f t n same names back low =
    let here : pattern_term (names_of (alone e)) e ≡ Ok t = pattern_alike (names_of (alone e)) e t (ap₂ pattern_term names same ∙ back) in
    ap (λ z. then_fun z (λ u. within_depth HEAD_DEPTH (first_byte e) u)) here ∙ cond-true (nat_le (depth t) HEAD_DEPTH) (Ok t) (Err (too_deep_at (first_byte e))) (le-leb (depth t) HEAD_DEPTH low)

-- what is printed of a head, of conditions and of a body
record IsPrintedClause (d : Dialect) (h : Tree) (cs bs : Trees) (u : List ℕ) : Type 0 where
  pub head : PrintedPattern
  pub conditions : FunExprs
  pub body : FunExprs
  pub head_is : head_of_term h ≡ Ok head
  pub conditions_are : exprs_of_terms d in_condition cs ≡ Ok conditions
  pub body_is : exprs_of_terms d in_body bs ≡ Ok body
  pub some : has_one body ≡ true
  pub text : u ≡ parts_text (expr_text head.0) (guard_text conditions) (texts_of body)

some_printed : (d : Dialect) (t : Tree) (ts : Trees) (es : FunExprs) → exprs_of_terms d in_body (more t ts) ≡ Ok es → has_one es ≡ true
some_printed d t ts es h =
    let a = print_ok (expr_of_term d in_body t) (λ e. then_print (exprs_of_terms d in_body ts) (λ xs. Ok (tree.more e xs))) es h in
    let b = print_ok (exprs_of_terms d in_body ts) (λ xs. Ok (tree.more a.0 xs)) es a.2 in
    ap has_one (sym (same_ok (tree.more a.0 b.0) es b.2))

body_parts : (d : Dialect) (n : ℕ) (bs : Trees) (us : List (List ℕ)) → body_printed d n bs ≡ Ok us → (es : FunExprs) × (exprs_of_terms d in_body bs ≡ Ok es) × (us ≡ expr_texts es) × (has_one es ≡ true)
body_parts d n none us h = absurd (cc)
body_parts d n (more t ts) us h =
    let r = parts_ok d in_body n the_expression 1 (more t ts) us h in
    (r.0, r.1, r.2, some_printed d t ts r.0 r.1)

printed_parts : (d : Dialect) (n : ℕ) (h : Tree) (cs bs : Trees) (u : List ℕ) → clause_of_parts_printed d n h cs bs ≡ Ok u → IsPrintedClause d h cs bs u
printed_parts d n h cs bs u e =
    let a = clause_ok (reason_at n the_head (head_of_term h)) (λ p. then_clause (parts_printed d in_condition n the_condition 1 cs) (λ gs. then_clause (body_printed d n bs) (λ es. Ok (codes "(" ++ expr_text p.0 ++ codes ")" ++ when_text gs ++ codes " -> " ++ joined_with (codes ", ") es)))) u e in
    let b = clause_ok (parts_printed d in_condition n the_condition 1 cs) (λ gs. then_clause (body_printed d n bs) (λ es. Ok (codes "(" ++ expr_text a.0.0 ++ codes ")" ++ when_text gs ++ codes " -> " ++ joined_with (codes ", ") es))) u a.2 in
    let c = clause_ok (body_printed d n bs) (λ es. Ok (codes "(" ++ expr_text a.0.0 ++ codes ")" ++ when_text b.0 ++ codes " -> " ++ joined_with (codes ", ") es)) u b.2 in
    let p = parts_ok d in_condition n the_condition 1 cs b.0 b.1 in
    let q = body_parts d n bs c.0 c.1 in
    record {
      head = a.0;
      conditions = p.0;
      body = q.0;
      head_is = reason_ok n the_head (head_of_term h) a.0 a.1;
      conditions_are = p.1;
      body_is = q.1;
      some = q.3;
      text = sym (same_ok _ u c.2) ∙ ap₂ (λ g b. parts_text (expr_text a.0.0) g b) (ap when_text p.2 ∙ when_is p.0) (ap (joined_with (codes ", ")) q.2 ∙ joined_texts q.0);
    }

module _ (d : Dialect) (h : Tree) (cs bs : Trees) where
  -- each text of the clause is one of it
  parts_back : (u : List ℕ) (k : Clause) → IsPrintedClause d h cs bs u → clause_of_parts d h cs bs ≡ Ok k → is_writable h ≡ true → are_writable cs ≡ true → are_writable bs ≡ true → sizes_fit h ≡ true → sizes_fit (term.list cs) ≡ true → sizes_fit (term.list bs) ≡ true → depth h ≤ HEAD_DEPTH → greatest_depth cs ≤ PART_DEPTH → greatest_depth bs ≤ PART_DEPTH
      → IsClauseBack d (triple h (term.list cs) (term.list bs)) u
  parts_back u k p r wh wc wb sh sc sb dh dc db =
      let x = read_ok (head_of h) _ k r in
      let y = read_ok (exprs_of d in_condition x.0 cs) _ k x.2 in
      let z = read_ok (exprs_of d in_body x.0 bs) _ k y.2 in
      let cs_sizes = and_parts (nat_le (count cs) LIST_LENGTH) (all_sizes_fit cs) sc in
      let bs_sizes = and_parts (nat_le (count bs) LIST_LENGTH) (all_sizes_fit bs) sb in
      let head = head_back h p.head x.0 p.head_is x.1 wh sh in
      let n = head.greatest in
      let ns = names_up_to n in
      let conditions = rows_of d in_condition ns x.0 refl head.bound cs p.conditions y.0 p.conditions_are y.1 wc cs_sizes.1 in
      let body = rows_of d in_body ns x.0 refl head.bound bs p.body z.0 p.body_is z.1 wb bs_sizes.1 in
      let c_row = row_back d in_condition ns cs p.conditions _ conditions.back in
      let b_row = row_back d in_body ns bs p.body _ body.back in
      record {
        after = (expr_text p.head.0 ++ codes ")") ++ guard_text p.conditions ++ codes " -> " ++ texts_of p.body;
        begins = p.text;
        written = λ at to rest ys f is m.
            let w = parts_written p.head.0 p.conditions p.body at to rest ys head.text c_row.text b_row.text f (is ∙ ap (λ v. at + length v) p.text) m in
            let c_fine = fine_row d in_condition ns cs p.conditions _ w.conditions c_row w.conditions_same cs_sizes.0 dc in
            let b_fine = fine_row d in_body ns bs p.body _ w.body b_row w.body_same bs_sizes.0 db in
            let same : unplaced w.head ≡ p.head.0 = w.head_same ∙ head.bare in
            let names = head_names w.head p.head.0 n same head.names in
            let head_deep = head.deep in
            let head_nesting_is : nesting_depth w.head ≡ nesting_depth p.head.0 = sym (nesting_same w.head) ∙ ap nesting_depth same in
            let guard_deep = guards_depth w.conditions c_fine in
            let body_deep = b_fine.deep in
            let some = one_there w.body p.body w.body_same p.some in
            let key : FunClause = record { at = at; head = alone w.head; guards = guards_of w.conditions; body = each_expr w.body } in
            subst (λ v. IsClauseWritten d (triple h (term.list cs) (term.list bs)) at (v ++ rest) ys) (sym p.text)
            (record {
              clause = key;
              spans = w.spans;
              tokens = w.tokens;
              pieces = w.pieces;
              good = record {
                is =
                    and_from (is_fun_head (alone w.head)) (is_level_head (alone w.head) && (are_guards (guards_of w.conditions) && are_exprs (each_expr w.body))) (same_head w.head p.head.0 same ∙ head.head)
                    (and_from (is_level_head (alone w.head)) (are_guards (guards_of w.conditions) && are_exprs (each_expr w.body)) (sym (level_same 1 w.head) ∙ ap (has_level 1) same ∙ head.level)
                    (and_from (are_guards (guards_of w.conditions)) (are_exprs (each_expr w.body)) (guards_level w.conditions c_fine) (b_fine.levels some)));
                sized = and_from (is_sized w.head) _ (sym (sized_same w.head) ∙ ap is_sized same ∙ head.sized) (and_from (are_sized_guards (guards_of w.conditions)) (is_sized_row (each_expr w.body)) (guards_sized w.conditions c_fine) b_fine.sized);
                deep = omega (arith, head_deep, head_nesting_is, guard_deep, body_deep, dh);
                counted = guards_counted w.conditions;
                row = each_expr w.conditions;
                only = guards_only w.conditions;
                back =
                    ap (λ q. then_fun q (λ v. then_fun (part_terms d in_condition (names_of (alone w.head)) (each_expr w.conditions)) (λ us. then_fun (part_terms d in_body (names_of (alone w.head)) (each_expr w.body)) (λ vs. Ok (triple v (list_term us) (list_term vs)))))) (head_terms w.head p.head.0 h n same names head.back dh)
                    ∙ ap (λ q. then_fun (part_terms d in_condition q (each_expr w.conditions)) (λ us. then_fun (part_terms d in_body q (each_expr w.body)) (λ vs. Ok (triple h (list_term us) (list_term vs))))) names
                    ∙ ap (λ q. then_fun q (λ us. then_fun (part_terms d in_body ns (each_expr w.body)) (λ vs. Ok (triple h (list_term us) (list_term vs))))) (row_terms d in_condition ns cs p.conditions _ w.conditions conditions.back w.conditions_same dc)
                    ∙ ap (λ q. then_fun q (λ vs. Ok (triple h (list_term (elements cs)) (list_term vs)))) (row_terms d in_body ns bs p.body _ w.body body.back w.body_same db)
                    ∙ ap₂ (λ us vs. Ok (triple h (term.list us) (term.list vs))) (elements-of cs) (elements-of bs);
              };
            });
      }

-- each clause is back
pub clause_back : (d : Dialect) (n : ℕ) (t : Tree) (u : List ℕ) (k : Clause) → clause_printed d n t ≡ Ok u → clause_of d t ≡ Ok k → is_writable t ≡ true → sizes_fit t ≡ true → depth t ≤ 31 → IsClauseBack d t u
clause_back d n (term.tuple (more h (more (term.list cs) (more (term.list bs) none)))) u k p r w s low =
    let w1 = and_parts (is_writable h) (are_writable cs && (are_writable bs && true)) w in
    let w2 = and_parts (are_writable cs) (are_writable bs && true) w1.1 in
    let s0 = and_parts (nat_le 3 255) (sizes_fit h && (sizes_fit (term.list cs) && (sizes_fit (term.list bs) && true))) s in
    let s1 = and_parts (sizes_fit h) (sizes_fit (term.list cs) && (sizes_fit (term.list bs) && true)) s0.1 in
    let s2 = and_parts (sizes_fit (term.list cs)) (sizes_fit (term.list bs) && true) s1.1 in
    parts_back d h cs bs u k (printed_parts d n h cs bs u p) r w1.0 w2.0 (and_parts (are_writable bs) true w2.1).0 s1.0 s2.0 (and_parts (sizes_fit (term.list bs)) true s2.1).0 (omega (arith, low)) (omega (arith, low)) (omega (arith, low))
clause_back d n t u k p r w s low = absurd (no_ok badarg k r)
