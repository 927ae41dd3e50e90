-- An expression is read where its tokens are.
use Rattle.std.proofs.Common.{◌≡◌, ◌⊎◌, ℕ, ◌+◌, ◌<◌, ◌≤◌, max, nat_le, nat_lt, List, [], ◌∷◌, ◌++◌, map, length, Bool, true, false, not, ◌&&◌, None, Result, Ok, refl, ap, ap₂, sym, ◌∙◌, subst, arith, append_assoc, append-nil, length-append, inl, inr}
use Rattle.std.proofs.lemmas.Bool.{and_parts, and_from, cond-true, cond-false, le-leb, lt-ltb, leb-true, false_from_ne_true}
use Rattle.def_term.specs.Names.{Name}
use Rattle.def_term.specs.Atoms.{ATOM_LENGTH}
use Rattle.def_text.specs.Limits.{TUPLE_LENGTH, LIST_LENGTH}
use Rattle.def_text.specs.Faults.{FaultKind}
use Rattle.def_fun.specs.Operators as op
use Rattle.def_fun.specs.Operators.{FunOperator, operator_binding, level_of, left_level, right_level, PREFIX_LEVEL, is_infix, is_prefix}
use Rattle.def_fun.specs.Tokens as token
use Rattle.def_fun.specs.Tokens.{FunToken, FunSpan}
use Rattle.def_fun.specs.Trees.{FunExpr, variable, whole, atom, strings, in_parens, call, list, list_onto, tuple, before, between, FunExprs, none, more, each_expr, of_exprs, nesting_depth, greatest_nesting, joined_codes, is_pattern, are_patterns}
use Rattle.def_fun.specs.Grammar.{Piece, at_offset, anywhere, IsPiece, ArePieces, string_piece, expr_pieces, pieces_of, pieces_after, has_one, has_level, have_levels}
use Rattle.def_fun.specs.Limits.{GREATEST_INTEGER, is_sized, are_sized}
use Rattle.def_fun.specs.Reading.{OpenPart, in_open_parens, in_open_call, in_open_list, in_open_tail, in_open_tuple, after_left, after_prefix, ExprState, wants, has, gather, may_follow, may_stand, greatest_there, has_level_left, if_placed, operand_at, operator_after, close_after, comma_after, bar_after, on_operand, after_operand, fun_expr_step, if_none_open, ended_expr}
use Rattle.def_fun.proofs.OpenParts.{Admits}
use Rattle.def_fun_printing.proofs.OperatorBounds.{bounds, apart}

-- ---- pieces

pub record SplitPieces (ps qs : List Piece) (xs : List FunSpan) : Type 0 where
  pub front : List FunSpan
  pub rest : List FunSpan
  pub split : xs ≡ front ++ rest
  pub first : ArePieces ps front
  pub later : ArePieces qs rest

pub split_pieces : (ps qs : List Piece) (xs : List FunSpan) → ArePieces (ps ++ qs) xs → SplitPieces ps qs xs
split_pieces [] qs xs h = record { front = []; rest = xs; split = refl; first = refl; later = h }
split_pieces (p ∷ ps) qs [] h = absurd h
split_pieces (p ∷ ps) qs (x ∷ xs) h = let r = split_pieces ps qs xs h.1 in record { front = x ∷ r.front; rest = r.rest; split = ap (λ ys. x ∷ ys) r.split; first = (h.0, r.first); later = r.later }

-- ---- tokens that may end an expression

abbrev pub is_end : FunToken → Bool
is_end token.close_paren = true
is_end token.match = true
is_end token.comma = true
is_end token.semicolon = true
is_end token.arrow = true
is_end token.end_word = true
is_end t = false

-- the expression goes on with this token
abbrev pub GoesOn : ExprState → FunSpan → Type 0
GoesOn s x = (ended_expr s ≡ None) ⊎ (is_end x.token ≡ false)

-- something of the expression is read
abbrev pub IsWithin : ExprState → Type 0
IsWithin (wants []) = ⊥
IsWithin s = Unit {0}

-- ---- limits and patterns

-- the integer is not too large where it is
abbrev SizedIn : List OpenPart → FunExpr → Type 0
SizedIn fs (whole at n) = nat_le n (greatest_there fs) ≡ true
SizedIn fs e = is_sized e ≡ true

greatest_least : (fs : List OpenPart) → GREATEST_INTEGER ≤ greatest_there fs
greatest_least (after_prefix at op.minus ∷ fs) = omega arith
greatest_least fs = omega arith

pub sized_in : (fs : List OpenPart) (e : FunExpr) → is_sized e ≡ true → SizedIn fs e
sized_in fs (whole at n) h = le-leb n (greatest_there fs) (let a = leb-true n GREATEST_INTEGER h in let b = greatest_least fs in omega (arith, a, b))
sized_in fs e h = h

sized_operand : (at : ℕ) (o : FunOperator) (e : FunExpr) (fs : List OpenPart) → is_sized (before at o e) ≡ true → SizedIn (after_prefix at o ∷ fs) e
sized_operand at op.minus (whole here n) fs h = h
sized_operand at o e fs h = sized_in (after_prefix at o ∷ fs) e h

-- in a pattern it is one
abbrev pub is_pattern_where : Bool → FunExpr → Bool
is_pattern_where true e = is_pattern e
is_pattern_where false e = true

abbrev are_patterns_where : Bool → FunExprs → Bool
are_patterns_where true es = are_patterns es
are_patterns_where false es = true

-- in a pattern an integer alone may be after `-`
abbrev StandsIn : Bool → List OpenPart → FunExpr → Type 0
StandsIn p fs (whole at n) = Unit {0}
StandsIn p fs e = may_stand p fs ≡ true

pub stands_in : (p : Bool) (fs : List OpenPart) (e : FunExpr) → may_stand p fs ≡ true → StandsIn p fs e
stands_in p fs (whole at n) h = tt
stands_in p fs e h = h

any_pattern : (p : Bool) (e : FunExpr) → not p ≡ true → is_pattern_where p e ≡ true
any_pattern true e h = absurd (let no : false ≡ true = h in cc)
any_pattern false e h = refl

parens_pattern : (p : Bool) (at : ℕ) (e : FunExpr) → is_pattern_where p (in_parens at e) ≡ true → not p ≡ true
parens_pattern true at e h = h
parens_pattern false at e h = refl

call_pattern : (p : Bool) (at : ℕ) (s : Name) (es : FunExprs) → is_pattern_where p (call at s es) ≡ true → not p ≡ true
call_pattern true at s es h = h
call_pattern false at s es h = refl

between_pattern : (p : Bool) (at : ℕ) (o : FunOperator) (l r : FunExpr) → is_pattern_where p (between at o l r) ≡ true → not p ≡ true
between_pattern true at o l r h = h
between_pattern false at o l r h = refl

bit_not_pattern : (p : Bool) (at : ℕ) (e : FunExpr) → is_pattern_where p (before at op.bit_not e) ≡ true → not p ≡ true
bit_not_pattern true at e h = h
bit_not_pattern false at e h = refl

negation_pattern : (p : Bool) (at : ℕ) (e : FunExpr) → is_pattern_where p (before at op.negation e) ≡ true → not p ≡ true
negation_pattern true at e h = h
negation_pattern false at e h = refl

tuple_pattern : (p : Bool) (at : ℕ) (es : FunExprs) → is_pattern_where p (tuple at es) ≡ true → are_patterns_where p es ≡ true
tuple_pattern true at es h = h
tuple_pattern false at es h = refl

abbrev IsOpen : OpenPart → Type 0
IsOpen (after_prefix at o) = ⊥
IsOpen f = Unit {0}

stands_open : (p : Bool) (f : OpenPart) (fs : List OpenPart) → IsOpen f → may_stand p (f ∷ fs) ≡ true
stands_open false f fs i = refl
stands_open true (in_open_parens at) fs i = refl
stands_open true (in_open_call at s es) fs i = refl
stands_open true (in_open_list at es) fs i = refl
stands_open true (in_open_tail at es) fs i = refl
stands_open true (in_open_tuple at es) fs i = refl
stands_open true (after_left at o l) fs i = refl
stands_open true (after_prefix at o) fs i = absurd i

prefix_pattern : (p : Bool) (at : ℕ) (o : FunOperator) (e : FunExpr) (fs : List OpenPart) → is_pattern_where p (before at o e) ≡ true → StandsIn p (after_prefix at o ∷ fs) e × (is_pattern_where p e ≡ true)
prefix_pattern false at o e fs h = (stands_in false (after_prefix at o ∷ fs) e refl, refl)
prefix_pattern true at op.minus (whole here n) fs h = (tt, refl)
prefix_pattern true at o e fs h = absurd (let no : false ≡ true = h in cc)

any_patterns : (p : Bool) (es : FunExprs) → not p ≡ true → are_patterns_where p es ≡ true
any_patterns true es h = absurd (let no : false ≡ true = h in cc)
any_patterns false es h = refl

some_pattern : (p : Bool) (e : FunExpr) (es : FunExprs) → are_patterns_where p (more e es) ≡ true → (is_pattern_where p e ≡ true) × (are_patterns_where p es ≡ true)
some_pattern true e es h = and_parts (is_pattern e) (are_patterns es) h
some_pattern false e es h = (refl, refl)

elements_pattern : (p : Bool) (at : ℕ) (es : FunExprs) → is_pattern_where p (list at es) ≡ true → are_patterns_where p es ≡ true
elements_pattern true at es h = h
elements_pattern false at es h = refl

tail_pattern : (p : Bool) (at : ℕ) (es : FunExprs) (e : FunExpr) → is_pattern_where p (list_onto at es e) ≡ true → (are_patterns_where p es ≡ true) × (is_pattern_where p e ≡ true)
tail_pattern true at es e h = and_parts (are_patterns es) (is_pattern e) h
tail_pattern false at es e h = (refl, refl)

-- ---- operators

placed : (a b c : Bool) (s : ExprState) → a ≡ true → b ≡ true → c ≡ true → if_placed a b c s ≡ Ok s
placed true true true s h k l = refl
placed true true false s h k l = absurd (let no : false ≡ true = l in cc)
placed true false c s h k l = absurd (let no : false ≡ true = k in cc)
placed false b c s h k l = absurd (let no : false ≡ true = h in cc)

-- an operand of a level that what waits admits isn't gathered
stays : (o : FunOperator) (n : ℕ) (e : FunExpr) (fs : List OpenPart) → is_infix o ≡ true → n ≤ level_of (operator_binding o) → Admits n fs → gather (left_level (operator_binding o)) e fs ≡ (e, fs)
stays o n e [] two h a = refl
stays o n e (in_open_parens at ∷ fs) two h a = refl
stays o n e (in_open_call at s es ∷ fs) two h a = refl
stays o n e (in_open_list at es ∷ fs) two h a = refl
stays o n e (in_open_tail at es ∷ fs) two h a = refl
stays o n e (in_open_tuple at es ∷ fs) two h a = refl
stays o n e (after_left at p l ∷ fs) two h a =
    let less = apart p o two (omega (arith, h, a)) in
    cond-false (nat_le (left_level (operator_binding o)) (level_of (operator_binding p))) _ _ (false_from_ne_true _ (λ k. let most = leb-true (left_level (operator_binding o)) (level_of (operator_binding p)) k in omega (arith, less, most)))
stays o n e (after_prefix at p ∷ fs) two h a = let most = (bounds o).most two in absurd (omega (arith, h, a, most))

follows : (o : FunOperator) (n : ℕ) (fs : List OpenPart) → n ≤ level_of (operator_binding o) → Admits n fs → may_follow o fs ≡ true
follows o n (after_left at p l ∷ fs) h a = le-leb (right_level (operator_binding p)) (level_of (operator_binding o)) (omega (arith, h, a))
follows o n [] h a = refl
follows o n (in_open_parens at ∷ fs) h a = refl
follows o n (in_open_call at s es ∷ fs) h a = refl
follows o n (in_open_list at es ∷ fs) h a = refl
follows o n (in_open_tail at es ∷ fs) h a = refl
follows o n (in_open_tuple at es ∷ fs) h a = refl
follows o n (after_prefix at p ∷ fs) h a = refl

-- a tighter operand is admitted too
admits_more : (m n : ℕ) (fs : List OpenPart) → m ≤ n → Admits m fs → Admits n fs
admits_more m n [] h a = omega (arith, h, a)
admits_more m n (in_open_parens at ∷ fs) h a = omega (arith, h, a)
admits_more m n (in_open_call at s es ∷ fs) h a = omega (arith, h, a)
admits_more m n (in_open_list at es ∷ fs) h a = omega (arith, h, a)
admits_more m n (in_open_tail at es ∷ fs) h a = omega (arith, h, a)
admits_more m n (in_open_tuple at es ∷ fs) h a = omega (arith, h, a)
admits_more m n (after_left at o l ∷ fs) h a = omega (arith, h, a)
admits_more m n (after_prefix at o ∷ fs) h a = omega (arith, h, a)

-- one that waits gathers an operand that binds at least as strongly
gathered : (m at : ℕ) (o : FunOperator) (l e : FunExpr) (fs : List OpenPart) → m ≤ level_of (operator_binding o) → gather m e (after_left at o l ∷ fs) ≡ gather m (between at o l e) fs
gathered m at o l e fs h = cond-true (nat_le m (level_of (operator_binding o))) _ _ (le-leb m (level_of (operator_binding o)) h)

-- ---- strings and elements

joined_longer : (s : List ℕ) (ss : List (List ℕ)) → length s ≤ length (joined_codes s ss)
joined_longer s [] = omega arith
joined_longer s (u ∷ us) = let later = joined_longer (s ++ u) us in omega (arith, later, length-append s u)

joined_more : (s : List ℕ) (ss us : List (List ℕ)) → length (joined_codes s ss) ≤ length (joined_codes s (ss ++ us))
joined_more s [] us = joined_longer s us
joined_more s (u ∷ ss) us = joined_more (s ++ u) ss us

exprs-of : (es : FunExprs) → of_exprs (each_expr es) ≡ es
exprs-of none = refl
exprs-of (more e es) = ap (more e) (exprs-of es)

-- ---- steps

module _ (pattern : Bool) (limit : ℕ) where
  -- tokens that an expression goes on with
  abbrev pub Passes : ExprState → List FunSpan → ExprState → Type 0
  Passes s [] s' = s ≡ s'
  Passes s (x ∷ xs) s' = (z : ExprState) × (fun_expr_step pattern limit true s x ≡ Ok z) × GoesOn s x × IsWithin z × Passes z xs s'

  pub passes_on : (s z s' : ExprState) (xs ys : List FunSpan) → Passes s xs z → Passes z ys s' → Passes s (xs ++ ys) s'
  passes_on s z s' [] ys h k = subst (λ u. Passes u ys s') (sym h) k
  passes_on s z s' (x ∷ xs) ys h k = (h.0, h.1, h.2, h.3, passes_on h.0 z s' xs ys h.4 k)

  passes_then : (s z u s' : ExprState) (xs ys : List FunSpan) (x : FunSpan) → Passes s xs z → fun_expr_step pattern limit true z x ≡ Ok u → GoesOn z x → IsWithin u → Passes u ys s' → Passes s (xs ++ x ∷ ys) s'
  passes_then s z u s' xs ys x h step on within k = passes_on s z s' xs (x ∷ ys) h (u, step, on, within, k)

  -- an expression of some level is read: what waits gathers the same
  pub record Reads (n : ℕ) (fs : List OpenPart) (e : FunExpr) (xs : List FunSpan) : Type 0 where
    pub operand : FunExpr
    pub parts : List OpenPart
    pub passes : Passes (wants fs) xs (has operand parts)
    pub same : (m : ℕ) → m ≤ n → gather m operand parts ≡ gather m e fs

  -- the expressions of a node, up to its last
  record ReadsElements (part : List FunExpr → OpenPart) (fs : List OpenPart) (all : List FunExpr) (s : ExprState) (xs : List FunSpan) : Type 0 where
    pub operand : FunExpr
    pub parts : List OpenPart
    pub earlier : List FunExpr
    pub last : FunExpr
    pub passes : Passes s xs (has operand parts)
    pub same : gather 1 operand parts ≡ (last, part earlier ∷ fs)
    pub are : earlier ++ last ∷ [] ≡ all

  -- a part that has elements with commas between them
  record HasElements (part : List FunExpr → OpenPart) (fs : List OpenPart) (most : ℕ) : Type 0 where
    pub closed : (es : List FunExpr) (e : FunExpr) → gather 1 e (part es ∷ fs) ≡ (e, part es ∷ fs)
    pub comma : (es : List FunExpr) (e : FunExpr) → length (es ++ e ∷ []) < most → comma_after pattern limit true e (part es ∷ fs) ≡ Ok (wants (part (es ++ e ∷ []) ∷ fs))
    pub admits : (es : List FunExpr) → Admits 1 (part es ∷ fs)
    pub stands : (es : List FunExpr) → may_stand pattern (part es ∷ fs) ≡ true

  -- one token as a piece
  step_at : (s z : ExprState) (x : FunSpan) (at : ℕ) (t : FunToken) → IsPiece (at_offset at t) x → fun_expr_step pattern limit true s (record { token = t; from = at; to = x.to }) ≡ Ok z → fun_expr_step pattern limit true s x ≡ Ok z
  step_at s z x at t h k = ap₂ (λ a b. fun_expr_step pattern limit true s (record { token = a; from = b; to = x.to })) h.1 h.0 ∙ k

  step_of : (s z : ExprState) (x : FunSpan) (t : FunToken) → IsPiece (anywhere t) x → fun_expr_step pattern limit true s (record { token = t; from = x.from; to = x.to }) ≡ Ok z → fun_expr_step pattern limit true s x ≡ Ok z
  step_of s z x t h k = ap (λ a. fun_expr_step pattern limit true s (record { token = a; from = x.from; to = x.to })) h ∙ k

  leaf_reads : (n : ℕ) (fs : List OpenPart) (e : FunExpr) (x : FunSpan) (xs : List FunSpan) (at : ℕ) (t : FunToken) → IsPiece (at_offset at t) x → xs ≡ [] → operand_at pattern limit true fs at t ≡ Ok (has e fs) → Reads n fs e (x ∷ xs)
  leaf_reads n fs e x xs at t h over k = record {
    operand = e;
    parts = fs;
    passes = (has e fs, step_at (wants fs) (has e fs) x at t h k, inl refl, tt, subst (λ ys. Passes (has e fs) ys (has e fs)) (sym over) refl);
    same = λ m l. refl;
  }

  -- ---- strings

  string_reads : (ss later : List (List ℕ)) (at : ℕ) (s : List ℕ) (fs : List OpenPart) (xs : List FunSpan) → ArePieces (map string_piece later) xs → length (joined_codes s (ss ++ later)) ≤ LIST_LENGTH → Passes (has (strings at s ss) fs) xs (has (strings at s (ss ++ later)) fs)
  string_reads ss [] at s fs [] h most = ap (λ us. has (strings at s us) fs) (sym (append-nil ss))
  string_reads ss [] at s fs (x ∷ xs) h most = absurd (cc)
  string_reads ss (u ∷ us) at s fs [] h most = absurd h
  string_reads ss (u ∷ us) at s fs (x ∷ xs) h most =
      let all : (ss ++ u ∷ []) ++ us ≡ ss ++ u ∷ us = append_assoc ss (u ∷ []) us in
      let size : length (joined_codes s ((ss ++ u ∷ []) ++ us)) ≤ LIST_LENGTH = subst (λ vs. length (joined_codes s vs) ≤ LIST_LENGTH) (sym all) most in
      let fits : length (joined_codes s (ss ++ u ∷ [])) ≤ LIST_LENGTH = let more_codes = joined_more s (ss ++ u ∷ []) us in omega (arith, more_codes, size) in
      let z = has (strings at s (ss ++ u ∷ [])) fs in (
        z,
        step_of (has (strings at s ss) fs) z x (token.characters u) h.0 (placed true true (nat_le (length (joined_codes s (ss ++ u ∷ []))) LIST_LENGTH) z refl refl (le-leb (length (joined_codes s (ss ++ u ∷ []))) LIST_LENGTH fits)),
        inr (ap is_end h.0),
        tt,
        subst (λ vs. Passes z xs (has (strings at s vs) fs)) all (string_reads (ss ++ u ∷ []) us at s fs xs h.1 size),
      )

  -- ---- brackets

  -- a bracket that closes after an operand
  close_step : (e operand : FunExpr) (parts : List OpenPart) (f : OpenPart) (fs : List OpenPart) (z : ExprState) (x : FunSpan) (t : FunToken) (after : FunExpr → List OpenPart → Result ExprState FaultKind) → gather 1 operand parts ≡ (e, f ∷ fs) → IsPiece (anywhere t) x
      → after_operand pattern limit true operand parts x.from t ≡ on_operand pattern limit true after (gather 1 operand parts) → after e (f ∷ fs) ≡ Ok z → fun_expr_step pattern limit true (has operand parts) x ≡ Ok z
  close_step e operand parts f fs z x t after same is step goes = step_of (has operand parts) z x t is (step ∙ ap (on_operand pattern limit true after) same ∙ goes)

  -- an expression in an open bracket doesn't end there
  open_inside : (e operand : FunExpr) (parts : List OpenPart) (f : OpenPart) (fs : List OpenPart) → gather 1 operand parts ≡ (e, f ∷ fs) → ended_expr (has operand parts) ≡ None
  open_inside e operand parts f fs same = ap if_none_open same

  list_has : (at : ℕ) (fs : List OpenPart) → HasElements (in_open_list at) fs LIST_LENGTH
  list_has at fs = record {
    closed = λ es e. refl;
    comma = λ es e few. placed true true (nat_lt (length (es ++ e ∷ [])) LIST_LENGTH) (wants (in_open_list at (es ++ e ∷ []) ∷ fs)) refl refl (lt-ltb (length (es ++ e ∷ [])) LIST_LENGTH few);
    admits = λ es. omega arith;
    stands = λ es. stands_open pattern (in_open_list at es) fs tt;
  }

  tuple_has : (at : ℕ) (fs : List OpenPart) → HasElements (in_open_tuple at) fs TUPLE_LENGTH
  tuple_has at fs = record {
    closed = λ es e. refl;
    comma = λ es e few. placed true true (nat_lt (length (es ++ e ∷ [])) TUPLE_LENGTH) (wants (in_open_tuple at (es ++ e ∷ []) ∷ fs)) refl refl (lt-ltb (length (es ++ e ∷ [])) TUPLE_LENGTH few);
    admits = λ es. omega arith;
    stands = λ es. stands_open pattern (in_open_tuple at es) fs tt;
  }

  call_has : (at : ℕ) (s : Name) (fs : List OpenPart) (most : ℕ) → HasElements (in_open_call at s) fs most
  call_has at s fs most = record { closed = λ es e. refl; comma = λ es e few. refl; admits = λ es. omega arith; stands = λ es. stands_open pattern (in_open_call at s es) fs tt }

  -- the opening token of parentheses, of a list, of a tuple
  open_step : (f : OpenPart) (fs : List OpenPart) (x : FunSpan) (at : ℕ) (t : FunToken) (a b : Bool) → IsPiece (at_offset at t) x → operand_at pattern limit true fs at t ≡ if_placed a b true (wants (f ∷ fs)) → a ≡ true → b ≡ true → fun_expr_step pattern limit true (wants fs) x ≡ Ok (wants (f ∷ fs))
  open_step f fs x at t a b h is k l = step_at (wants fs) (wants (f ∷ fs)) x at t h (is ∙ placed a b true (wants (f ∷ fs)) k l refl)

  level_left : (fs : List OpenPart) (n : ℕ) → length fs + (1 + n) ≤ limit → has_level_left pattern limit true fs ≡ true
  level_left fs n h = lt-ltb (length fs) limit (omega (arith, h))

  -- an operator before an operand
  prefix_step : (o : FunOperator) (fs : List OpenPart) (at : ℕ) (e : FunExpr) → is_prefix o ≡ true → is_pattern_where pattern (before at o e) ≡ true → may_stand pattern fs ≡ true → has_level_left pattern limit true fs ≡ true
      → operand_at pattern limit true fs at (token.operator o) ≡ Ok (wants (after_prefix at o ∷ fs))
  prefix_step op.minus fs at e one p h l = placed (may_stand pattern fs) (has_level_left pattern limit true fs) true (wants (after_prefix at op.minus ∷ fs)) h l refl
  prefix_step op.bit_not fs at e one p h l = placed (is_prefix op.bit_not && not pattern) (has_level_left pattern limit true fs) true (wants (after_prefix at op.bit_not ∷ fs)) (bit_not_pattern pattern at e p) l refl
  prefix_step op.negation fs at e one p h l = placed (is_prefix op.negation && not pattern) (has_level_left pattern limit true fs) true (wants (after_prefix at op.negation ∷ fs)) (negation_pattern pattern at e p) l refl
  prefix_step o fs at e one p h l = absurd (let no : false ≡ true = one in cc)

  -- an operator between two operands
  infix_step : (at : ℕ) (o : FunOperator) (n : ℕ) (l operand : FunExpr) (fs parts : List OpenPart) → is_infix o ≡ true → not pattern ≡ true → n ≤ level_of (operator_binding o) → Admits n fs → length fs + nesting_depth l < limit → gather (left_level (operator_binding o)) operand parts ≡ gather (left_level (operator_binding o)) l fs
      → after_operand pattern limit true operand parts at (token.operator o) ≡ Ok (wants (after_left at o l ∷ fs))
  infix_step at o n l operand fs parts two p h a deep same =
      ap (on_operand pattern limit true (operator_after pattern limit true at o)) (same ∙ stays o n l fs two h a)
      ∙ placed (not pattern && (is_infix o && may_follow o fs)) (nat_lt (length fs + nesting_depth l) limit) true (wants (after_left at o l ∷ fs))
      (and_from (not pattern) (is_infix o && may_follow o fs) p (and_from (is_infix o) (may_follow o fs) two (follows o n fs h a))) (lt-ltb (length fs + nesting_depth l) limit deep) refl

  -- the last token of a bracket
  end_passes : (s z : ExprState) (operand : FunExpr) (parts : List OpenPart) (xs zs : List FunSpan) (t : FunToken) → Passes s xs (has operand parts) → ArePieces (anywhere t ∷ []) zs → ((y : FunSpan) → IsPiece (anywhere t) y → fun_expr_step pattern limit true (has operand parts) y ≡ Ok z)
      → ended_expr (has operand parts) ≡ None → IsWithin z → Passes s (xs ++ zs) z
  end_passes s z operand parts xs [] t h is step inside within = absurd is
  end_passes s z operand parts xs (y ∷ zs) t h is step inside within = passes_then s (has operand parts) z z xs zs y h (step y is.0) (inl inside) within (subst (λ us. Passes z us z) (sym is.1) refl)

  bracket : (n : ℕ) (f : OpenPart) (fs : List OpenPart) (x : FunSpan) (xs : List FunSpan) (e : FunExpr) (ys zs : List FunSpan) (t : FunToken) (operand : FunExpr) (parts : List OpenPart) → fun_expr_step pattern limit true (wants fs) x ≡ Ok (wants (f ∷ fs)) → xs ≡ ys ++ zs → Passes (wants (f ∷ fs)) ys (has operand parts) → ArePieces (anywhere t ∷ []) zs
      → ((y : FunSpan) → IsPiece (anywhere t) y → fun_expr_step pattern limit true (has operand parts) y ≡ Ok (has e fs)) → ended_expr (has operand parts) ≡ None → Reads n fs e (x ∷ xs)
  bracket n f fs x xs e ys zs t operand parts step split h is close inside = record {
    operand = e;
    parts = fs;
    passes = (wants (f ∷ fs), step, inl refl, tt, subst (λ us. Passes (wants (f ∷ fs)) us (has e fs)) (sym split) (end_passes (wants (f ∷ fs)) (has e fs) operand parts ys zs t h is close inside tt));
    same = λ m k. refl;
  }

  -- a bracket that closes at once
  none_passes : (f : OpenPart) (fs : List OpenPart) (z : ExprState) (xs zs : List FunSpan) (t : FunToken) → xs ≡ [] → ArePieces (anywhere t ∷ []) zs → ((y : FunSpan) → IsPiece (anywhere t) y → fun_expr_step pattern limit true (wants (f ∷ fs)) y ≡ Ok z) → IsWithin z → Passes (wants (f ∷ fs)) (xs ++ zs) z
  none_passes f fs z xs [] t over is step within = absurd is
  none_passes f fs z xs (y ∷ zs) t over is step within = subst (λ us. Passes (wants (f ∷ fs)) (us ++ y ∷ zs) z) (sym over) (z, step y is.0, inl refl, within, subst (λ us. Passes z us z) (sym is.1) refl)

  -- the expressions of a node, or none
  abbrev AnyElements : (List FunExpr → OpenPart) → List OpenPart → FunExprs → List FunSpan → Type 0
  AnyElements part fs es xs = ((es ≡ none) × (xs ≡ [])) ⊎ ReadsElements part fs (each_expr es) (wants (part [] ∷ fs)) xs

  some_elements : (part : List FunExpr → OpenPart) (fs : List OpenPart) (es : FunExprs) (xs : List FunSpan) → has_one es ≡ true → AnyElements part fs es xs → ReadsElements part fs (each_expr es) (wants (part [] ∷ fs)) xs
  some_elements part fs es xs one (inl h) = absurd (let no : false ≡ true = ap has_one (sym h.0) ∙ one in cc)
  some_elements part fs es xs one (inr h) = h

  list_read : (es : FunExprs) (at : ℕ) (fs : List OpenPart) (ys zs : List FunSpan) → AnyElements (in_open_list at) fs es ys → ArePieces (anywhere token.close_bracket ∷ []) zs → Passes (wants (in_open_list at [] ∷ fs)) (ys ++ zs) (has (list at es) fs)
  list_read es at fs ys zs (inl h) is =
      subst (λ us. Passes (wants (in_open_list at [] ∷ fs)) (ys ++ zs) (has (list at us) fs)) (sym h.0)
      (none_passes (in_open_list at []) fs (has (list at none) fs) ys zs token.close_bracket h.1 is (λ y i. step_of (wants (in_open_list at [] ∷ fs)) (has (list at none) fs) y token.close_bracket i refl) tt)
  list_read es at fs ys zs (inr r) is =
      let z = has (list at (of_exprs (r.earlier ++ r.last ∷ []))) fs in
      subst (λ us. Passes (wants (in_open_list at [] ∷ fs)) (ys ++ zs) (has (list at us) fs)) (ap of_exprs r.are ∙ exprs-of es)
      (end_passes (wants (in_open_list at [] ∷ fs)) z r.operand r.parts ys zs token.close_bracket r.passes is
      (λ y i. close_step r.last r.operand r.parts (in_open_list at r.earlier) fs z y token.close_bracket (close_after pattern limit true token.close_bracket) r.same i refl refl)
      (open_inside r.last r.operand r.parts (in_open_list at r.earlier) fs r.same) tt)

  tuple_read : (es : FunExprs) (at : ℕ) (fs : List OpenPart) (ys zs : List FunSpan) → AnyElements (in_open_tuple at) fs es ys → ArePieces (anywhere token.close_brace ∷ []) zs → Passes (wants (in_open_tuple at [] ∷ fs)) (ys ++ zs) (has (tuple at es) fs)
  tuple_read es at fs ys zs (inl h) is =
      subst (λ us. Passes (wants (in_open_tuple at [] ∷ fs)) (ys ++ zs) (has (tuple at us) fs)) (sym h.0)
      (none_passes (in_open_tuple at []) fs (has (tuple at none) fs) ys zs token.close_brace h.1 is (λ y i. step_of (wants (in_open_tuple at [] ∷ fs)) (has (tuple at none) fs) y token.close_brace i refl) tt)
  tuple_read es at fs ys zs (inr r) is =
      let z = has (tuple at (of_exprs (r.earlier ++ r.last ∷ []))) fs in
      subst (λ us. Passes (wants (in_open_tuple at [] ∷ fs)) (ys ++ zs) (has (tuple at us) fs)) (ap of_exprs r.are ∙ exprs-of es)
      (end_passes (wants (in_open_tuple at [] ∷ fs)) z r.operand r.parts ys zs token.close_brace r.passes is
      (λ y i. close_step r.last r.operand r.parts (in_open_tuple at r.earlier) fs z y token.close_brace (close_after pattern limit true token.close_brace) r.same i refl refl)
      (open_inside r.last r.operand r.parts (in_open_tuple at r.earlier) fs r.same) tt)

  arguments_read : (es : FunExprs) (at : ℕ) (s : Name) (fs : List OpenPart) (ys zs : List FunSpan) → AnyElements (in_open_call at s) fs es ys → ArePieces (anywhere token.close_paren ∷ []) zs → Passes (wants (in_open_call at s [] ∷ fs)) (ys ++ zs) (has (call at s es) fs)
  arguments_read es at s fs ys zs (inl h) is =
      subst (λ us. Passes (wants (in_open_call at s [] ∷ fs)) (ys ++ zs) (has (call at s us) fs)) (sym h.0)
      (none_passes (in_open_call at s []) fs (has (call at s none) fs) ys zs token.close_paren h.1 is (λ y i. step_of (wants (in_open_call at s [] ∷ fs)) (has (call at s none) fs) y token.close_paren i refl) tt)
  arguments_read es at s fs ys zs (inr r) is =
      let z = has (call at s (of_exprs (r.earlier ++ r.last ∷ []))) fs in
      subst (λ us. Passes (wants (in_open_call at s [] ∷ fs)) (ys ++ zs) (has (call at s us) fs)) (ap of_exprs r.are ∙ exprs-of es)
      (end_passes (wants (in_open_call at s [] ∷ fs)) z r.operand r.parts ys zs token.close_paren r.passes is
      (λ y i. close_step r.last r.operand r.parts (in_open_call at s r.earlier) fs z y token.close_paren (close_after pattern limit true token.close_paren) r.same i refl refl)
      (open_inside r.last r.operand r.parts (in_open_call at s r.earlier) fs r.same) tt)

  tail_read : (e : FunExpr) (at : ℕ) (all : FunExprs) (fs : List OpenPart) (earlier : List FunExpr) (last operand : FunExpr) (parts : List OpenPart) (xs : List FunSpan) → gather 1 operand parts ≡ (last, in_open_list at earlier ∷ fs) → earlier ++ last ∷ [] ≡ each_expr all → ArePieces (anywhere token.bar ∷ (expr_pieces e ++ anywhere token.close_bracket ∷ [])) xs
      → ((us : List FunSpan) → ArePieces (expr_pieces e) us → Reads 1 (in_open_tail at (earlier ++ last ∷ []) ∷ fs) e us) → Passes (has operand parts) xs (has (list_onto at all e) fs)
  tail_read e at all fs earlier last operand parts [] same are h later = absurd h
  tail_read e at all fs earlier last operand parts (x ∷ xs) same are h later =
      let f = in_open_tail at (earlier ++ last ∷ []) in
      let cut = split_pieces (expr_pieces e) (anywhere token.close_bracket ∷ []) xs h.1 in
      let step = close_step last operand parts (in_open_list at earlier) fs (wants (f ∷ fs)) x token.bar (bar_after pattern limit true) same h.0 refl refl in
      let r = later cut.front cut.first in
      let here = r.same 1 (omega arith) in
      let z = has (list_onto at (of_exprs (earlier ++ last ∷ [])) e) fs in (
        wants (f ∷ fs),
        step,
        inr (ap is_end h.0),
        tt,
        subst (λ us. Passes (wants (f ∷ fs)) us (has (list_onto at all e) fs)) (sym cut.split)
            (subst (λ us. Passes (wants (f ∷ fs)) (cut.front ++ cut.rest) (has (list_onto at us e) fs)) (ap of_exprs are ∙ exprs-of all)
            (end_passes (wants (f ∷ fs)) z r.operand r.parts cut.front cut.rest token.close_bracket r.passes cut.later
            (λ y i. close_step e r.operand r.parts f fs z y token.close_bracket (close_after pattern limit true token.close_bracket) here i refl refl) (open_inside e r.operand r.parts f fs here) tt)),
      )

  -- the operator between two operands, and the right one
  infix_read : (at : ℕ) (o : FunOperator) (n : ℕ) (e g : FunExpr) (fs : List OpenPart) (xs ys zs : List FunSpan) → Reads (left_level (operator_binding o)) fs e ys → not pattern ≡ true → xs ≡ ys ++ zs → ArePieces (at_offset at (token.operator o) ∷ expr_pieces g) zs → is_infix o ≡ true → n ≤ level_of (operator_binding o) → Admits n fs
      → length fs + nesting_depth e < limit → ((us : List FunSpan) → ArePieces (expr_pieces g) us → Reads (right_level (operator_binding o)) (after_left at o e ∷ fs) g us) → Reads n fs (between at o e g) xs
  infix_read at o n e g fs xs ys [] q np split is two low a deep later = absurd is
  infix_read at o n e g fs xs ys (y ∷ us) q np split is two low a deep later =
      let r = later us is.1 in
      let up = (bounds o).right in
      let step = step_at (has q.operand q.parts) (wants (after_left at o e ∷ fs)) y at (token.operator o) is.0 (infix_step at o n e q.operand fs q.parts two np low a deep (q.same (left_level (operator_binding o)) (omega arith))) in
      record {
        operand = r.operand;
        parts = r.parts;
        passes = subst (λ vs. Passes (wants fs) vs (has r.operand r.parts)) (sym split) (passes_then (wants fs) (has q.operand q.parts) (wants (after_left at o e ∷ fs)) (has r.operand r.parts) ys us y q.passes step (inr (ap is_end is.0.1)) tt r.passes);
        same = λ m k. r.same m (omega (arith, k, low, up)) ∙ gathered m at o e g fs (omega (arith, k, low));
      }

  mutual
    -- each expression is read where its tokens are
    pub expr_reads : (e : FunExpr) (n : ℕ) (fs : List OpenPart) (xs : List FunSpan) → ArePieces (expr_pieces e) xs → has_level n e ≡ true → Admits n fs → length fs + nesting_depth e ≤ limit → SizedIn fs e → is_pattern_where pattern e ≡ true → StandsIn pattern fs e → Reads n fs e xs
    expr_reads (variable at s) n fs [] h l a deep size p st = absurd h
    expr_reads (variable at s) n fs (x ∷ xs) h l a deep size p st = leaf_reads n fs (variable at s) x xs at (token.variable s) h.0 h.1 (placed (may_stand pattern fs) true (nat_le (length s) ATOM_LENGTH) (has (variable at s) fs) st refl size)
    expr_reads (whole at k) n fs [] h l a deep size p st = absurd h
    expr_reads (whole at k) n fs (x ∷ xs) h l a deep size p st = leaf_reads n fs (whole at k) x xs at (token.whole k) h.0 h.1 (placed true true (nat_le k (greatest_there fs)) (has (whole at k) fs) refl refl size)
    expr_reads (atom at s) n fs [] h l a deep size p st = absurd h
    expr_reads (atom at s) n fs (x ∷ xs) h l a deep size p st = leaf_reads n fs (atom at s) x xs at (token.atom s) h.0 h.1 (placed (may_stand pattern fs) true (nat_le (length s) ATOM_LENGTH) (has (atom at s) fs) st refl size)
    expr_reads (strings at s ss) n fs [] h l a deep size p st = absurd h
    expr_reads (strings at s ss) n fs (x ∷ xs) h l a deep size p st =
        let most = leb-true (length (joined_codes s ss)) LIST_LENGTH size in
        let few : length s ≤ LIST_LENGTH = let more_codes = joined_longer s ss in omega (arith, most, more_codes) in
        let z = has (strings at s []) fs in
        record {
          operand = strings at s ss;
          parts = fs;
          passes = (z, step_at (wants fs) z x at (token.characters s) h.0 (placed (may_stand pattern fs) true (nat_le (length s) LIST_LENGTH) z st refl (le-leb (length s) LIST_LENGTH few)), inl refl, tt, string_reads [] ss at s fs xs h.1 most);
          same = λ m k. refl;
        }
    expr_reads (in_parens at e) n fs [] h l a deep size p st = absurd h
    expr_reads (in_parens at e) n fs (x ∷ xs) h l a deep size p st =
        let f = in_open_parens at in
        let np = parens_pattern pattern at e p in
        let cut = split_pieces (expr_pieces e) (anywhere token.close_paren ∷ []) xs h.1 in
        let r = expr_reads e 1 (f ∷ fs) cut.front cut.first l (omega arith) (omega (arith, deep)) (sized_in (f ∷ fs) e size) (any_pattern pattern e np) (stands_in pattern (f ∷ fs) e (stands_open pattern f fs tt)) in
        let same = r.same 1 (omega arith) in
        bracket n f fs x xs (in_parens at e) cut.front cut.rest token.close_paren r.operand r.parts (open_step f fs x at token.open_paren (not pattern) (has_level_left pattern limit true fs) h.0 refl np (level_left fs (nesting_depth e) deep)) cut.split r.passes cut.later
        (λ y is. close_step e r.operand r.parts f fs (has (in_parens at e) fs) y token.close_paren (close_after pattern limit true token.close_paren) same is refl refl) (open_inside e r.operand r.parts f fs same)
    expr_reads (call at s es) n fs [] h l a deep size p st = absurd h
    expr_reads (call at s es) n fs (x ∷ []) h l a deep size p st = absurd h.1
    expr_reads (call at s es) n fs (x ∷ y ∷ xs) h l a deep size p st =
        let np = call_pattern pattern at s es p in
        let sizes = and_parts (nat_le (length s) ATOM_LENGTH) (are_sized es) size in
        let first : fun_expr_step pattern limit true (wants fs) x ≡ Ok (has (atom at s) fs) = step_at (wants fs) (has (atom at s) fs) x at (token.atom s) h.0 (placed (may_stand pattern fs) true (nat_le (length s) ATOM_LENGTH) (has (atom at s) fs) st refl sizes.0) in
        let second : fun_expr_step pattern limit true (has (atom at s) fs) y ≡ Ok (wants (in_open_call at s [] ∷ fs)) =
        step_of (has (atom at s) fs) (wants (in_open_call at s [] ∷ fs)) y token.open_paren h.1.0 (placed (not pattern) (has_level_left pattern limit true fs) true (wants (in_open_call at s [] ∷ fs)) np (level_left fs (greatest_nesting es) deep) refl) in
        let cut = split_pieces (pieces_of es) (anywhere token.close_paren ∷ []) xs h.1.1 in
        let most = length (each_expr es) in
        let inner = arguments_read es at s fs cut.front cut.rest (first_reads es (in_open_call at s) fs most cut.front (call_has at s fs most) cut.first l (omega (arith, deep)) (omega arith) sizes.1 (any_patterns pattern es np)) cut.later in
        record {
          operand = call at s es;
          parts = fs;
          passes = (has (atom at s) fs, first, inl refl, tt, (wants (in_open_call at s [] ∷ fs), second, inr (ap is_end h.1.0), tt, subst (λ zs. Passes (wants (in_open_call at s [] ∷ fs)) zs (has (call at s es) fs)) (sym cut.split) inner));
          same = λ m k. refl;
        }
    expr_reads (list at es) n fs [] h l a deep size p st = absurd h
    expr_reads (list at es) n fs (x ∷ xs) h l a deep size p st =
        let sizes = and_parts (nat_le (length (each_expr es)) LIST_LENGTH) (are_sized es) size in
        let cut = split_pieces (pieces_of es) (anywhere token.close_bracket ∷ []) xs h.1 in
        let step = open_step (in_open_list at []) fs x at token.open_bracket (may_stand pattern fs) (has_level_left pattern limit true fs) h.0 refl st (level_left fs (greatest_nesting es) deep) in
        let inner = list_read es at fs cut.front cut.rest (first_reads es (in_open_list at) fs LIST_LENGTH cut.front (list_has at fs) cut.first l (omega (arith, deep)) (leb-true (length (each_expr es)) LIST_LENGTH sizes.0) sizes.1 (elements_pattern pattern at es p)) cut.later in
        record {
          operand = list at es;
          parts = fs;
          passes = (wants (in_open_list at [] ∷ fs), step, inl refl, tt, subst (λ zs. Passes (wants (in_open_list at [] ∷ fs)) zs (has (list at es) fs)) (sym cut.split) inner);
          same = λ m k. refl;
        }
    expr_reads (list_onto at es e) n fs [] h l a deep size p st = absurd h
    expr_reads (list_onto at es e) n fs (x ∷ xs) h l a deep size p st =
        let sizes = and_parts (nat_le (length (each_expr es)) LIST_LENGTH) (are_sized es && is_sized e) size in
        let more_sizes = and_parts (are_sized es) (is_sized e) sizes.1 in
        let parts = and_parts (has_one es) (have_levels es && has_level 1 e) l in
        let levels = and_parts (have_levels es) (has_level 1 e) parts.1 in
        let patterns = tail_pattern pattern at es e p in
        let cut = split_pieces (pieces_of es) (anywhere token.bar ∷ (expr_pieces e ++ anywhere token.close_bracket ∷ [])) xs h.1 in
        let step = open_step (in_open_list at []) fs x at token.open_bracket (may_stand pattern fs) (has_level_left pattern limit true fs) h.0 refl st (level_left fs (max (greatest_nesting es) (nesting_depth e)) deep) in
        let r = some_elements (in_open_list at) fs es cut.front parts.0 (first_reads es (in_open_list at) fs LIST_LENGTH cut.front (list_has at fs) cut.first levels.0 (omega (arith, deep)) (leb-true (length (each_expr es)) LIST_LENGTH sizes.0) more_sizes.0 patterns.0) in
        let f = in_open_tail at (r.earlier ++ r.last ∷ []) in
        let t = tail_read e at es fs r.earlier r.last r.operand r.parts cut.rest r.same r.are cut.later
        (λ us here. expr_reads e 1 (f ∷ fs) us here levels.1 (omega arith) (omega (arith, deep)) (sized_in (f ∷ fs) e more_sizes.1) patterns.1 (stands_in pattern (f ∷ fs) e (stands_open pattern f fs tt))) in
        record {
          operand = list_onto at es e;
          parts = fs;
          passes = (wants (in_open_list at [] ∷ fs), step, inl refl, tt, subst (λ zs. Passes (wants (in_open_list at [] ∷ fs)) zs (has (list_onto at es e) fs)) (sym cut.split) (passes_on (wants (in_open_list at [] ∷ fs)) (has r.operand r.parts) (has (list_onto at es e) fs) cut.front cut.rest r.passes t));
          same = λ m k. refl;
        }
    expr_reads (tuple at es) n fs [] h l a deep size p st = absurd h
    expr_reads (tuple at es) n fs (x ∷ xs) h l a deep size p st =
        let sizes = and_parts (nat_le (length (each_expr es)) TUPLE_LENGTH) (are_sized es) size in
        let cut = split_pieces (pieces_of es) (anywhere token.close_brace ∷ []) xs h.1 in
        let step = open_step (in_open_tuple at []) fs x at token.open_brace (may_stand pattern fs) (has_level_left pattern limit true fs) h.0 refl st (level_left fs (greatest_nesting es) deep) in
        let inner = tuple_read es at fs cut.front cut.rest (first_reads es (in_open_tuple at) fs TUPLE_LENGTH cut.front (tuple_has at fs) cut.first l (omega (arith, deep)) (leb-true (length (each_expr es)) TUPLE_LENGTH sizes.0) sizes.1 (tuple_pattern pattern at es p)) cut.later in
        record {
          operand = tuple at es;
          parts = fs;
          passes = (wants (in_open_tuple at [] ∷ fs), step, inl refl, tt, subst (λ zs. Passes (wants (in_open_tuple at [] ∷ fs)) zs (has (tuple at es) fs)) (sym cut.split) inner);
          same = λ m k. refl;
        }
    expr_reads (before at o e) n fs [] h l a deep size p st = absurd h
    expr_reads (before at o e) n fs (x ∷ xs) h l a deep size p st =
        let f = after_prefix at o in
        let parts = and_parts (is_prefix o) (nat_le n PREFIX_LEVEL && has_level PREFIX_LEVEL e) l in
        let levels = and_parts (nat_le n PREFIX_LEVEL) (has_level PREFIX_LEVEL e) parts.1 in
        let q = prefix_pattern pattern at o e fs p in
        let small = leb-true n PREFIX_LEVEL levels.0 in
        let step = step_at (wants fs) (wants (f ∷ fs)) x at (token.operator o) h.0 (prefix_step o fs at e parts.0 p st (level_left fs (nesting_depth e) deep)) in
        let r = expr_reads e PREFIX_LEVEL (f ∷ fs) xs h.1 levels.1 (omega arith) (omega (arith, deep)) (sized_operand at o e fs size) q.1 q.0 in
        record {
          operand = r.operand;
          parts = r.parts;
          passes = (wants (f ∷ fs), step, inl refl, tt, r.passes);
          same = λ m k. r.same m (omega (arith, k, small));
        }
    expr_reads (between at o e g) n fs xs h l a deep size p st =
        let binding = operator_binding o in
        let parts = and_parts (is_infix o) (nat_le n (level_of binding) && (has_level (left_level binding) e && has_level (right_level binding) g)) l in
        let some = and_parts (nat_le n (level_of binding)) (has_level (left_level binding) e && has_level (right_level binding) g) parts.1 in
        let levels = and_parts (has_level (left_level binding) e) (has_level (right_level binding) g) some.1 in
        let low = leb-true n (level_of binding) some.0 in
        let b = bounds o in
        let left = b.left in
        let right = b.right in
        let sizes = and_parts (is_sized e) (is_sized g) size in
        let np = between_pattern pattern at o e g p in
        let f = after_left at o e in
        let cut = split_pieces (expr_pieces e) (at_offset at (token.operator o) ∷ expr_pieces g) xs h in
        let q = expr_reads e (left_level binding) fs cut.front cut.first levels.0 (admits_more n (left_level binding) fs (omega (arith, low, left)) a) (omega (arith, deep)) (sized_in fs e sizes.0) (any_pattern pattern e np) (stands_in pattern fs e st) in
        infix_read at o n e g fs xs cut.front cut.rest q np cut.split cut.later parts.0 low a (omega (arith, deep))
        (λ zs here. expr_reads g (right_level binding) (f ∷ fs) zs here levels.1 (omega arith) (omega (arith, deep)) (sized_in (f ∷ fs) g sizes.1) (any_pattern pattern g np) (stands_in pattern (f ∷ fs) g (stands_open pattern f fs tt)))

    first_reads : (es : FunExprs) (part : List FunExpr → OpenPart) (fs : List OpenPart) (most : ℕ) (xs : List FunSpan) → HasElements part fs most → ArePieces (pieces_of es) xs → have_levels es ≡ true → length fs + (1 + greatest_nesting es) ≤ limit → length (each_expr es) ≤ most
        → are_sized es ≡ true → are_patterns_where pattern es ≡ true → AnyElements part fs es xs
    first_reads none part fs most xs el h l deep few size p = inl (refl, h)
    first_reads (more d es) part fs most xs el h l deep few size p =
        let levels = and_parts (has_level 1 d) (have_levels es) l in
        let sizes = and_parts (is_sized d) (are_sized es) size in
        let patterns = some_pattern pattern d es p in
        let cut = split_pieces (expr_pieces d) (pieces_after es) xs h in
        let f = part [] in
        let r = expr_reads d 1 (f ∷ fs) cut.front cut.first levels.0 (el.admits []) (omega (arith, deep)) (sized_in (f ∷ fs) d sizes.0) patterns.0 (stands_in pattern (f ∷ fs) d (el.stands [])) in
        let k = rest_reads es part fs most [] d r.operand r.parts cut.rest el cut.later levels.1 (omega (arith, deep)) (omega (arith, few)) sizes.1 patterns.1 (r.same 1 (omega arith) ∙ el.closed [] d) in
        inr (record { operand = k.operand; parts = k.parts; earlier = k.earlier; last = k.last; passes = subst (λ us. Passes (wants (f ∷ fs)) us (has k.operand k.parts)) (sym cut.split) (passes_on (wants (f ∷ fs)) (has r.operand r.parts) (has k.operand k.parts) cut.front cut.rest r.passes k.passes); same = k.same; are = k.are })

    rest_reads : (es : FunExprs) (part : List FunExpr → OpenPart) (fs : List OpenPart) (most : ℕ) (ds : List FunExpr) (e operand : FunExpr) (parts : List OpenPart) (xs : List FunSpan) → HasElements part fs most → ArePieces (pieces_after es) xs → have_levels es ≡ true → length fs + (1 + greatest_nesting es) ≤ limit → length ds + (1 + length (each_expr es)) ≤ most
        → are_sized es ≡ true → are_patterns_where pattern es ≡ true → gather 1 operand parts ≡ (e, part ds ∷ fs) → ReadsElements part fs (ds ++ e ∷ each_expr es) (has operand parts) xs
    rest_reads none part fs most ds e operand parts xs el h l deep few size p same = record { operand = operand; parts = parts; earlier = ds; last = e; passes = subst (λ us. Passes (has operand parts) us (has operand parts)) (sym h) refl; same = same; are = refl }
    rest_reads (more g es) part fs most ds e operand parts [] el h l deep few size p same = absurd h
    rest_reads (more g es) part fs most ds e operand parts (x ∷ xs) el h l deep few size p same =
        let levels = and_parts (has_level 1 g) (have_levels es) l in
        let sizes = and_parts (is_sized g) (are_sized es) size in
        let patterns = some_pattern pattern g es p in
        let us = ds ++ e ∷ [] in
        let f = part us in
        let longer = length-append ds (e ∷ []) in
        let cut = split_pieces (expr_pieces g) (pieces_after es) xs h.1 in
        let step = close_step e operand parts (part ds) fs (wants (f ∷ fs)) x token.comma (comma_after pattern limit true) same h.0 refl (el.comma ds e (omega (arith, few, longer))) in
        let r = expr_reads g 1 (f ∷ fs) cut.front cut.first levels.0 (el.admits us) (omega (arith, deep)) (sized_in (f ∷ fs) g sizes.0) patterns.0 (stands_in pattern (f ∷ fs) g (el.stands us)) in
        let k = rest_reads es part fs most us g r.operand r.parts cut.rest el cut.later levels.1 (omega (arith, deep)) (omega (arith, few, longer)) sizes.1 patterns.1 (r.same 1 (omega arith) ∙ el.closed us g) in
        record {
          operand = k.operand;
          parts = k.parts;
          earlier = k.earlier;
          last = k.last;
          passes = (wants (f ∷ fs), step, inl (open_inside e operand parts (part ds) fs same), tt, subst (λ vs. Passes (wants (f ∷ fs)) vs (has k.operand k.parts)) (sym cut.split) (passes_on (wants (f ∷ fs)) (has r.operand r.parts) (has k.operand k.parts) cut.front cut.rest r.passes k.passes));
          same = k.same;
          are = k.are ∙ append_assoc ds (e ∷ []) (g ∷ each_expr es);
        }
