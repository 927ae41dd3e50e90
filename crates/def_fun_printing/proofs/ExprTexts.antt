-- The tokens of the text of an expression spell it, with the offsets that they have there.
use Rattle.std.proofs.Common.{◌≡◌, ℕ, ◌+◌, ◌<◌, ◌^◌, List, [], ◌∷◌, ◌++◌, length, true, codes, decimal, refl, ap, ap₂, sym, ◌∙◌, subst, arith, append_assoc, append-nil, length-append}
use Rattle.def_term.specs.Text.{atom_text}
use Rattle.def_text.specs.Tokens.{all_are, is_printable}
use Rattle.def_fun.specs.Operators as op
use Rattle.def_fun.specs.Operators.{FunOperator, operator_name}
use Rattle.def_fun.specs.Spans.{SpansFrom}
use Rattle.def_fun.specs.Tokens as token
use Rattle.def_fun.specs.Tokens.{FunToken, is_variable_name, FunStands, FunSpan}
use Rattle.def_fun.specs.Scan.{fun_span}
use Rattle.def_fun.specs.Trees.{FunExpr, variable, whole, atom, strings, in_parens, call, list, list_onto, tuple, before, between, FunExprs, none, more}
use Rattle.def_fun.specs.Grammar.{Piece, at_offset, anywhere, ArePieces, expr_pieces, pieces_of, pieces_after}
use Rattle.def_fun.specs.FunTexts.{joined_with, string_text, expr_text, expr_texts}
use Rattle.def_fun_printing.proofs.Offsets.{unplaced, unplaced_each}
use Rattle.def_fun_printing.proofs.TextTokens.{Follows, follows_by, IsFront, one_span, blank_before, open_paren_front, close_paren_front, open_bracket_front, close_bracket_front, open_brace_front, close_brace_front, comma_front, bar_front, operator_front, variable_front, whole_front, minus_before, atom_front, string_front}

-- ---- which trees have a text of their own

abbrev IsNumber : FunExpr → Type 0
IsNumber (whole at n) = n < 2 ^ 64
IsNumber e = ⊥

abbrev IsNothing : FunExpr → Type 0
IsNothing (strings at [] []) = Unit {0}
IsNothing e = ⊥

abbrev mutual
  -- names, integers and strings are those of tokens, `-` is before an integer, and a tail is ""
  pub HasText : FunExpr → Type 0
  HasText (variable at s) = is_variable_name s ≡ true
  HasText (whole at n) = n < 2 ^ 64
  HasText (atom at s) = all_are is_printable s ≡ true
  HasText (strings at s ss) = (all_are is_printable s ≡ true) × (ss ≡ [])
  HasText (in_parens at e) = HasText e
  HasText (call at s es) = (all_are is_printable s ≡ true) × HaveText es
  HasText (list at es) = HaveText es
  HasText (list_onto at es e) = HaveText es × IsNothing e
  HasText (tuple at es) = HaveText es
  HasText (before at op.minus e) = IsNumber e
  HasText (before at o e) = HasText e
  HasText (between at o l r) = HasText l × HasText r

  pub HaveText : FunExprs → Type 0
  HaveText none = Unit {0}
  HaveText (more e es) = HasText e × HaveText es

-- ---- pieces

pub pieces_joined : (ps qs : List Piece) (xs ys : List FunSpan) → ArePieces ps xs → ArePieces qs ys → ArePieces (ps ++ qs) (xs ++ ys)
pieces_joined [] qs xs ys h k = subst (λ us. ArePieces qs (us ++ ys)) (sym h) k
pieces_joined (p ∷ ps) qs [] ys h k = absurd h
pieces_joined (p ∷ ps) qs (x ∷ xs) ys h k = (h.0, pieces_joined ps qs xs ys h.1 k)

-- ---- the texts of elements

-- with a comma before each
abbrev pub texts_after : FunExprs → List ℕ
texts_after none = []
texts_after (more e es) = 44 ∷ 32 ∷ (expr_text e ++ texts_after es)

abbrev pub texts_of : FunExprs → List ℕ
texts_of none = []
texts_of (more e es) = expr_text e ++ texts_after es

joined_after : (e : FunExpr) (es : FunExprs) → joined_with (codes ", ") (expr_texts (more e es)) ≡ expr_text e ++ texts_after es
joined_after e none = sym (append-nil (expr_text e))
joined_after e (more f es) = ap (λ u. (expr_text e ++ codes ", ") ++ u) (joined_after f es) ∙ append_assoc (expr_text e) (codes ", ") (expr_text f ++ texts_after es)

pub joined_texts : (es : FunExprs) → joined_with (codes ", ") (expr_texts es) ≡ texts_of es
joined_texts none = refl
joined_texts (more e es) = joined_after e es

-- ---- what is written

-- the tokens of some bytes, and then these, of which the first spell an expression that is this one but for its offsets
pub record IsWritten (at : ℕ) (bytes : List ℕ) (ys : List FunSpan) (e : FunExpr) : Type 0 where
  pub expr : FunExpr
  pub spans : List FunSpan
  pub tokens : SpansFrom FunToken FunStands at bytes (spans ++ ys)
  pub pieces : ArePieces (expr_pieces expr) spans
  pub same : unplaced expr ≡ unplaced e

pub record AreWritten (pieces_in : FunExprs → List Piece) (at : ℕ) (bytes : List ℕ) (ys : List FunSpan) (es : FunExprs) : Type 0 where
  pub exprs : FunExprs
  pub spans : List FunSpan
  pub tokens : SpansFrom FunToken FunStands at bytes (spans ++ ys)
  pub pieces : ArePieces (pieces_in exprs) spans
  pub same : unplaced_each exprs ≡ unplaced_each es

abbrev pub Spans : ℕ → List ℕ → List FunSpan → Type 0
Spans at bytes xs = SpansFrom FunToken FunStands at bytes xs

leaf_written : (at to : ℕ) (u rest : List ℕ) (ys : List FunSpan) (e f : FunExpr) (t : FunToken) → IsFront u rest t → to ≡ at + length u → Spans to rest ys → expr_pieces f ≡ at_offset at t ∷ [] → unplaced f ≡ unplaced e → IsWritten at (u ++ rest) ys e
leaf_written at to u rest ys e f t h is m pieces same = record {
  expr = f;
  spans = fun_span t at to ∷ [];
  tokens = one_span at to u rest t ys h is m;
  pieces = subst (λ ps. ArePieces ps (fun_span t at to ∷ [])) (sym pieces) ((refl, refl), refl);
  same = same;
}

-- the same bytes, put together otherwise
written_as : (at : ℕ) (bytes more_bytes : List ℕ) (ys : List FunSpan) (e : FunExpr) → bytes ≡ more_bytes → IsWritten at bytes ys e → IsWritten at more_bytes ys e
written_as at bytes more_bytes ys e is h = subst (λ b. IsWritten at b ys e) is h

prefix_text_of : (n u rest : List ℕ) → ((n ++ codes " ") ++ u) ++ rest ≡ n ++ 32 ∷ (u ++ rest)
prefix_text_of n u rest = append_assoc (n ++ 32 ∷ []) u rest ∙ append_assoc n (32 ∷ []) (u ++ rest)

call_text : (a u rest : List ℕ) → (a ++ codes "(" ++ u ++ codes ")") ++ rest ≡ a ++ (((40 ∷ u) ++ 41 ∷ []) ++ rest)
call_text a u rest = append_assoc ((a ++ 40 ∷ []) ++ u) (41 ∷ []) rest ∙ append_assoc (a ++ 40 ∷ []) u (41 ∷ rest) ∙ append_assoc a (40 ∷ []) (u ++ 41 ∷ rest) ∙ ap (λ b. a ++ 40 ∷ b) (sym (append_assoc u (41 ∷ []) rest))

between_text : (u n v rest : List ℕ) → (u ++ codes " " ++ n ++ codes " " ++ v) ++ rest ≡ u ++ 32 ∷ (n ++ 32 ∷ (v ++ rest))
between_text u n v rest = append_assoc (((u ++ 32 ∷ []) ++ n) ++ 32 ∷ []) v rest ∙ append_assoc ((u ++ 32 ∷ []) ++ n) (32 ∷ []) (v ++ rest) ∙ append_assoc (u ++ 32 ∷ []) n (32 ∷ (v ++ rest)) ∙ append_assoc u (32 ∷ []) (n ++ 32 ∷ (v ++ rest))

-- an operator before an operand, but `-`
prefix_written : (at to : ℕ) (o : FunOperator) (e : FunExpr) (u rest : List ℕ) (ys : List FunSpan) → IsWritten (at + length (operator_name o) + 1) (u ++ rest) ys e → IsWritten at ((operator_name o ++ codes " " ++ u) ++ rest) ys (before at o e)
prefix_written at to o e u rest ys w =
    let n = at + length (operator_name o) in
    let x = fun_span (token.operator o) at n in
    written_as at (operator_name o ++ 32 ∷ (u ++ rest)) ((operator_name o ++ codes " " ++ u) ++ rest) ys (before at o e) (sym (prefix_text_of (operator_name o) u rest))
    (record {
      expr = before at o w.expr;
      spans = x ∷ w.spans;
      tokens = one_span at n (operator_name o) (32 ∷ (u ++ rest)) (token.operator o) (w.spans ++ ys) (operator_front o (u ++ rest)) refl (blank_before 32 n (u ++ rest) (w.spans ++ ys) refl refl w.tokens);
      pieces = ((refl, refl), w.pieces);
      same = ap (before 0 o) w.same;
    })

-- brackets
enclosed : (at mid to c k : ℕ) (u rest : List ℕ) (xs ys : List FunSpan) (s t : FunToken) → IsFront (c ∷ []) (u ++ k ∷ rest) s → IsFront (k ∷ []) rest t → to ≡ mid + 1 → Spans to rest ys → (Spans mid (k ∷ rest) (fun_span t mid to ∷ ys) → Spans (at + 1) (u ++ k ∷ rest) (xs ++ fun_span t mid to ∷ ys))
    → Spans at (((c ∷ u) ++ k ∷ []) ++ rest) ((fun_span s at (at + 1) ∷ (xs ++ fun_span t mid to ∷ [])) ++ ys)
enclosed at mid to c k u rest xs ys s t h g is m inner =
    let closing = one_span mid to (k ∷ []) rest t ys g (omega (arith, is)) m in
    let whole_text = one_span at (at + 1) (c ∷ []) (u ++ k ∷ rest) s (xs ++ fun_span t mid to ∷ ys) h (omega arith) (inner closing) in
    subst (λ b. Spans at b ((fun_span s at (at + 1) ∷ (xs ++ fun_span t mid to ∷ [])) ++ ys)) (ap (λ b. c ∷ b) (sym (append_assoc u (k ∷ []) rest)))
    (subst (λ zs. Spans at (c ∷ (u ++ k ∷ rest)) (fun_span s at (at + 1) ∷ zs)) (sym (append_assoc xs (fun_span t mid to ∷ []) ys)) whole_text)

enclosed_pieces : (at mid to : ℕ) (xs : List FunSpan) (ps : List Piece) (s t : FunToken) → ArePieces ps xs → ArePieces (at_offset at s ∷ (ps ++ anywhere t ∷ [])) (fun_span s at (at + 1) ∷ (xs ++ fun_span t mid to ∷ []))
enclosed_pieces at mid to xs ps s t h = ((refl, refl), pieces_joined ps (anywhere t ∷ []) xs (fun_span t mid to ∷ []) h (refl, refl))

-- after an element: a comma, or what comes after the last
follows_after : (es : FunExprs) (rest : List ℕ) → Follows rest → Follows (texts_after es ++ rest)
follows_after none rest f = f
follows_after (more e es) rest f = follows_by 44 _ refl

tail_text : (u rest : List ℕ) → (codes "[" ++ u ++ codes "|" ++ codes "\"\"" ++ codes "]") ++ rest ≡ 91 ∷ (u ++ (124 ∷ 34 ∷ 34 ∷ 93 ∷ rest))
tail_text u rest = ap (λ b. 91 ∷ b) (append_assoc ((u ++ 124 ∷ []) ++ 34 ∷ 34 ∷ []) (93 ∷ []) rest ∙ append_assoc (u ++ 124 ∷ []) (34 ∷ 34 ∷ []) (93 ∷ rest) ∙ append_assoc u (124 ∷ []) (34 ∷ 34 ∷ 93 ∷ rest))

tail_size : (u : List ℕ) → length (codes "[" ++ u ++ codes "|" ++ codes "\"\"" ++ codes "]") ≡ length u + 5
tail_size u =
    let a = length-append (codes "[" ++ u ++ codes "|" ++ codes "\"\"") (93 ∷ []) in
    let b = length-append (codes "[" ++ u ++ codes "|") (34 ∷ 34 ∷ []) in
    let c = length-append (codes "[" ++ u) (124 ∷ []) in
    omega (arith, a, b, c)

-- `-` before an integer
minus_written : (here at to : ℕ) (e : FunExpr) (rest : List ℕ) (ys : List FunSpan) → IsNumber e → Follows rest → to ≡ at + length (expr_text (before here op.minus e)) → Spans to rest ys → IsWritten at (expr_text (before here op.minus e) ++ rest) ys (before here op.minus e)
minus_written here at to (whole there n) rest ys h f is m =
    let last = one_span (at + 1) to (decimal n) rest (token.whole n) ys (whole_front n rest h f) (omega (arith, is)) m in
    record {
      expr = before at op.minus (whole (at + 1) n);
      spans = fun_span (token.operator op.minus) at (at + 1) ∷ fun_span (token.whole n) (at + 1) to ∷ [];
      tokens = one_span at (at + 1) (45 ∷ []) (decimal n ++ rest) (token.operator op.minus) (fun_span (token.whole n) (at + 1) to ∷ ys) (minus_before n rest h) refl last;
      pieces = ((refl, refl), ((refl, refl), refl));
      same = refl;
    }
minus_written here at to e rest ys h f is m = absurd h

mutual
  -- each tree with a text is spelled by its tokens
  pub written : (e : FunExpr) (at to : ℕ) (rest : List ℕ) (ys : List FunSpan) → HasText e → Follows rest → to ≡ at + length (expr_text e) → Spans to rest ys → IsWritten at (expr_text e ++ rest) ys e
  written (variable here s) at to rest ys h f is m = leaf_written at to s rest ys (variable here s) (variable at s) (token.variable s) (variable_front s rest h f) is m refl refl
  written (whole here n) at to rest ys h f is m = leaf_written at to (decimal n) rest ys (whole here n) (whole at n) (token.whole n) (whole_front n rest h f) is m refl refl
  written (atom here s) at to rest ys h f is m = leaf_written at to (atom_text s) rest ys (atom here s) (atom at s) (token.atom s) (atom_front s rest h f.name) is m refl refl
  written (strings here s []) at to rest ys h f is m = leaf_written at to (string_text s) rest ys (strings here s []) (strings at s []) (token.characters s) (string_front s rest h.0 f) is m refl refl
  written (strings here s (u ∷ us)) at to rest ys h f is m = absurd (let no : u ∷ us ≡ [] = h.1 in cc)
  written (in_parens here e) at to rest ys h f is m =
      let u = expr_text e in
      let mid = at + 1 + length u in
      let size = length-append (40 ∷ u) (41 ∷ []) in
      let w = written e (at + 1) mid (41 ∷ rest) (fun_span token.close_paren mid to ∷ ys) h (follows_by 41 rest refl) refl (one_span mid to (41 ∷ []) rest token.close_paren ys (close_paren_front rest) (omega (arith, is, size)) m) in
      record {
        expr = in_parens at w.expr;
        spans = fun_span token.open_paren at (at + 1) ∷ (w.spans ++ fun_span token.close_paren mid to ∷ []);
        tokens = enclosed at mid to 40 41 u rest w.spans ys token.open_paren token.close_paren (open_paren_front (u ++ 41 ∷ rest)) (close_paren_front rest) (omega (arith, is, size)) m (λ _. w.tokens);
        pieces = enclosed_pieces at mid to w.spans (expr_pieces w.expr) token.open_paren token.close_paren w.pieces;
        same = ap (in_parens 0) w.same;
      }
  written (call here s es) at to rest ys h f is m =
      let n = at + length (atom_text s) in
      let u = texts_of es in
      let mid = n + 1 + length u in
      let text : (atom_text s ++ codes "(" ++ joined_with (codes ", ") (expr_texts es) ++ codes ")") ++ rest ≡ atom_text s ++ (((40 ∷ u) ++ 41 ∷ []) ++ rest) = ap (λ v. (atom_text s ++ codes "(" ++ v ++ codes ")") ++ rest) (joined_texts es) ∙ call_text (atom_text s) u rest in
      let size = ap length (ap (λ v. atom_text s ++ codes "(" ++ v ++ codes ")") (joined_texts es)) in
      let all_size = length-append (atom_text s ++ codes "(" ++ u) (41 ∷ []) in
      let part_size = length-append (atom_text s ++ codes "(") u in
      let first_size = length-append (atom_text s) (40 ∷ []) in
      let end : to ≡ mid + 1 = omega (arith, is, size, all_size, part_size, first_size) in
      let w = all_written es (n + 1) mid (41 ∷ rest) (fun_span token.close_paren mid to ∷ ys) h.1 (follows_by 41 rest refl) refl (one_span mid to (41 ∷ []) rest token.close_paren ys (close_paren_front rest) end m) in
      let inner = enclosed n mid to 40 41 u rest w.spans ys token.open_paren token.close_paren (open_paren_front (u ++ 41 ∷ rest)) (close_paren_front rest) end m (λ _. w.tokens) in
      written_as at _ _ ys (call here s es) (sym text)
      (record {
        expr = call at s w.exprs;
        spans = fun_span (token.atom s) at n ∷ fun_span token.open_paren n (n + 1) ∷ (w.spans ++ fun_span token.close_paren mid to ∷ []);
        tokens = one_span at n (atom_text s) (((40 ∷ u) ++ 41 ∷ []) ++ rest) (token.atom s) ((fun_span token.open_paren n (n + 1) ∷ (w.spans ++ fun_span token.close_paren mid to ∷ [])) ++ ys) (atom_front s (((40 ∷ u) ++ 41 ∷ []) ++ rest) h.0 refl) refl inner;
        pieces = ((refl, refl), (refl, pieces_joined (pieces_of w.exprs) (anywhere token.close_paren ∷ []) w.spans (fun_span token.close_paren mid to ∷ []) w.pieces (refl, refl)));
        same = ap (call 0 s) w.same;
      })
  written (list here es) at to rest ys h f is m =
      let u = texts_of es in
      let mid = at + 1 + length u in
      let text = ap (λ v. (codes "[" ++ v ++ codes "]") ++ rest) (joined_texts es) in
      let size = ap length (ap (λ v. codes "[" ++ v ++ codes "]") (joined_texts es)) in
      let all_size = length-append (91 ∷ u) (93 ∷ []) in
      let end : to ≡ mid + 1 = omega (arith, is, size, all_size) in
      let w = all_written es (at + 1) mid (93 ∷ rest) (fun_span token.close_bracket mid to ∷ ys) h (follows_by 93 rest refl) refl (one_span mid to (93 ∷ []) rest token.close_bracket ys (close_bracket_front rest) end m) in
      written_as at _ _ ys (list here es) (sym text)
      (record {
        expr = list at w.exprs;
        spans = fun_span token.open_bracket at (at + 1) ∷ (w.spans ++ fun_span token.close_bracket mid to ∷ []);
        tokens = enclosed at mid to 91 93 u rest w.spans ys token.open_bracket token.close_bracket (open_bracket_front (u ++ 93 ∷ rest)) (close_bracket_front rest) end m (λ _. w.tokens);
        pieces = enclosed_pieces at mid to w.spans (pieces_of w.exprs) token.open_bracket token.close_bracket w.pieces;
        same = ap (list 0) w.same;
      })
  written (list_onto here es (strings there [] [])) at to rest ys h f is m =
      let u = texts_of es in
      let bar = at + 1 + length u in
      let text : (codes "[" ++ joined_with (codes ", ") (expr_texts es) ++ codes "|" ++ codes "\"\"" ++ codes "]") ++ rest ≡ 91 ∷ (u ++ (124 ∷ 34 ∷ 34 ∷ 93 ∷ rest)) = ap (λ v. (codes "[" ++ v ++ codes "|" ++ codes "\"\"" ++ codes "]") ++ rest) (joined_texts es) ∙ tail_text u rest in
      let size = ap length (ap (λ v. codes "[" ++ v ++ codes "|" ++ codes "\"\"" ++ codes "]") (joined_texts es)) in
      let all_size = tail_size u in
      let end : to ≡ bar + 1 + 2 + 1 = omega (arith, is, size, all_size) in
      let xs = fun_span token.bar bar (bar + 1) ∷ fun_span (token.characters []) (bar + 1) (bar + 1 + 2) ∷ fun_span token.close_bracket (bar + 1 + 2) to ∷ [] in
      let closing = one_span (bar + 1 + 2) to (93 ∷ []) rest token.close_bracket ys (close_bracket_front rest) end m in
      let string = one_span (bar + 1) (bar + 1 + 2) (string_text []) (93 ∷ rest) (token.characters []) (fun_span token.close_bracket (bar + 1 + 2) to ∷ ys) (string_front [] (93 ∷ rest) refl (follows_by 93 rest refl)) refl closing in
      let tail = one_span bar (bar + 1) (124 ∷ []) (34 ∷ 34 ∷ 93 ∷ rest) token.bar (fun_span (token.characters []) (bar + 1) (bar + 1 + 2) ∷ fun_span token.close_bracket (bar + 1 + 2) to ∷ ys) (bar_front (34 ∷ 93 ∷ rest)) refl string in
      let w = all_written es (at + 1) bar (124 ∷ 34 ∷ 34 ∷ 93 ∷ rest) (xs ++ ys) h.0 (follows_by 124 (34 ∷ 34 ∷ 93 ∷ rest) refl) refl tail in
      written_as at _ _ ys (list_onto here es (strings there [] [])) (sym text)
      (record {
        expr = list_onto at w.exprs (strings (bar + 1) [] []);
        spans = fun_span token.open_bracket at (at + 1) ∷ (w.spans ++ xs);
        tokens = subst (λ zs. Spans at (91 ∷ (u ++ (124 ∷ 34 ∷ 34 ∷ 93 ∷ rest))) (fun_span token.open_bracket at (at + 1) ∷ zs)) (sym (append_assoc w.spans xs ys)) (one_span at (at + 1) (91 ∷ []) (u ++ (124 ∷ 34 ∷ 34 ∷ 93 ∷ rest)) token.open_bracket (w.spans ++ (xs ++ ys)) (open_bracket_front (u ++ (124 ∷ 34 ∷ 34 ∷ 93 ∷ rest))) refl w.tokens);
        pieces = ((refl, refl), pieces_joined (pieces_of w.exprs) (anywhere token.bar ∷ at_offset (bar + 1) (token.characters []) ∷ anywhere token.close_bracket ∷ []) w.spans xs w.pieces (refl, ((refl, refl), (refl, refl))));
        same = ap (λ ds. list_onto 0 ds (strings 0 [] [])) w.same;
      })
  written (list_onto here es e) at to rest ys h f is m = absurd h.1
  written (tuple here es) at to rest ys h f is m =
      let u = texts_of es in
      let mid = at + 1 + length u in
      let text = ap (λ v. (codes "{" ++ v ++ codes "}") ++ rest) (joined_texts es) in
      let size = ap length (ap (λ v. codes "{" ++ v ++ codes "}") (joined_texts es)) in
      let all_size = length-append (123 ∷ u) (125 ∷ []) in
      let end : to ≡ mid + 1 = omega (arith, is, size, all_size) in
      let w = all_written es (at + 1) mid (125 ∷ rest) (fun_span token.close_brace mid to ∷ ys) h (follows_by 125 rest refl) refl (one_span mid to (125 ∷ []) rest token.close_brace ys (close_brace_front rest) end m) in
      written_as at _ _ ys (tuple here es) (sym text)
      (record {
        expr = tuple at w.exprs;
        spans = fun_span token.open_brace at (at + 1) ∷ (w.spans ++ fun_span token.close_brace mid to ∷ []);
        tokens = enclosed at mid to 123 125 u rest w.spans ys token.open_brace token.close_brace (open_brace_front (u ++ 125 ∷ rest)) (close_brace_front rest) end m (λ _. w.tokens);
        pieces = enclosed_pieces at mid to w.spans (pieces_of w.exprs) token.open_brace token.close_brace w.pieces;
        same = ap (tuple 0) w.same;
      })
  written (before here op.minus e) at to rest ys h f is m = minus_written here at to e rest ys h f is m
  written (before here o e) at to rest ys h f is m =
      let n = at + length (operator_name o) + 1 in
      let size = length-append (operator_name o ++ codes " ") (expr_text e) in
      let first_size = length-append (operator_name o) (32 ∷ []) in
      let w = prefix_written at to o e (expr_text e) rest ys (written e n to rest ys h f (omega (arith, is, size, first_size)) m) in
      record { expr = w.expr; spans = w.spans; tokens = w.tokens; pieces = w.pieces; same = w.same }
  written (between here o l r) at to rest ys h f is m =
      let u = expr_text l in
      let v = expr_text r in
      let n = at + length u + 1 in
      let k = n + length (operator_name o) + 1 in
      let text : (u ++ codes " " ++ operator_name o ++ codes " " ++ v) ++ rest ≡ u ++ (32 ∷ (operator_name o ++ 32 ∷ (v ++ rest))) = between_text u (operator_name o) v rest in
      let a = length-append (u ++ codes " " ++ operator_name o ++ codes " ") v in
      let b = length-append (u ++ codes " " ++ operator_name o) (32 ∷ []) in
      let c = length-append (u ++ codes " ") (operator_name o) in
      let d = length-append u (32 ∷ []) in
      let right = written r k to rest ys h.1 f (omega (arith, is, a, b, c, d)) m in
      let x = fun_span (token.operator o) n (n + length (operator_name o)) in
      let middle = one_span n (n + length (operator_name o)) (operator_name o) (32 ∷ (v ++ rest)) (token.operator o) (right.spans ++ ys) (operator_front o (v ++ rest)) refl (blank_before 32 (n + length (operator_name o)) (v ++ rest) (right.spans ++ ys) refl refl right.tokens) in
      let later = blank_before 32 (at + length u) (operator_name o ++ 32 ∷ (v ++ rest)) (x ∷ (right.spans ++ ys)) refl refl middle in
      let left = written l at (at + length u) (32 ∷ (operator_name o ++ 32 ∷ (v ++ rest))) (x ∷ (right.spans ++ ys)) h.0 (follows_by 32 _ refl) refl later in
      written_as at _ _ ys (between here o l r) (sym text)
      (record {
        expr = between n o left.expr right.expr;
        spans = left.spans ++ x ∷ right.spans;
        tokens = subst (Spans at (u ++ (32 ∷ (operator_name o ++ 32 ∷ (v ++ rest))))) (sym (append_assoc left.spans (x ∷ right.spans) ys)) left.tokens;
        pieces = pieces_joined (expr_pieces left.expr) (at_offset n (token.operator o) ∷ expr_pieces right.expr) left.spans (x ∷ right.spans) left.pieces ((refl, refl), right.pieces);
        same = ap₂ (between 0 o) left.same right.same;
      })

  pub all_written : (es : FunExprs) (at to : ℕ) (rest : List ℕ) (ys : List FunSpan) → HaveText es → Follows rest → to ≡ at + length (texts_of es) → Spans to rest ys → AreWritten pieces_of at (texts_of es ++ rest) ys es
  all_written none at to rest ys h f is m = record { exprs = none; spans = []; tokens = subst (λ n. Spans n rest ys) (let e : to ≡ at = omega (arith, is) in e) m; pieces = refl; same = refl }
  all_written (more e es) at to rest ys h f is m =
      let u = expr_text e in
      let v = texts_after es in
      let mid = at + length u in
      let size = length-append u v in
      let r = rest_written es mid to rest ys h.1 f (omega (arith, is, size)) m in
      let w = written e at mid (v ++ rest) (r.spans ++ ys) h.0 (follows_after es rest f) refl r.tokens in
      record {
        exprs = more w.expr r.exprs;
        spans = w.spans ++ r.spans;
        tokens = subst (λ b. Spans at b ((w.spans ++ r.spans) ++ ys)) (sym (append_assoc u v rest)) (subst (Spans at (u ++ (v ++ rest))) (sym (append_assoc w.spans r.spans ys)) w.tokens);
        pieces = pieces_joined (expr_pieces w.expr) (pieces_after r.exprs) w.spans r.spans w.pieces r.pieces;
        same = ap₂ more w.same r.same;
      }

  rest_written : (es : FunExprs) (at to : ℕ) (rest : List ℕ) (ys : List FunSpan) → HaveText es → Follows rest → to ≡ at + length (texts_after es) → Spans to rest ys → AreWritten pieces_after at (texts_after es ++ rest) ys es
  rest_written none at to rest ys h f is m = record { exprs = none; spans = []; tokens = subst (λ n. Spans n rest ys) (let e : to ≡ at = omega (arith, is) in e) m; pieces = refl; same = refl }
  rest_written (more e es) at to rest ys h f is m =
      let u = expr_text e in
      let v = texts_after es in
      let mid = at + 1 + 1 + length u in
      let size = length-append u v in
      let r = rest_written es mid to rest ys h.1 f (omega (arith, is, size)) m in
      let w = written e (at + 1 + 1) mid (v ++ rest) (r.spans ++ ys) h.0 (follows_after es rest f) refl r.tokens in
      let inner = subst (λ b. Spans (at + 1 + 1) b ((w.spans ++ r.spans) ++ ys)) (sym (append_assoc u v rest)) (subst (Spans (at + 1 + 1) (u ++ (v ++ rest))) (sym (append_assoc w.spans r.spans ys)) w.tokens) in
      record {
        exprs = more w.expr r.exprs;
        spans = fun_span token.comma at (at + 1) ∷ (w.spans ++ r.spans);
        tokens = one_span at (at + 1) (44 ∷ []) (32 ∷ ((u ++ v) ++ rest)) token.comma ((w.spans ++ r.spans) ++ ys) (comma_front (32 ∷ ((u ++ v) ++ rest))) refl (blank_before 32 (at + 1) ((u ++ v) ++ rest) ((w.spans ++ r.spans) ++ ys) refl refl inner);
        pieces = (refl, pieces_joined (expr_pieces w.expr) (pieces_after r.exprs) w.spans r.spans w.pieces r.pieces);
        same = ap₂ more w.same r.same;
      }
