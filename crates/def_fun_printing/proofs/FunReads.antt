-- A fun is read where its tokens are.
use Rattle.std.proofs.Common.{◌≡◌, ◌⊎◌, ℕ, ◌+◌, ◌<◌, ◌≤◌, max, nat_le, nat_lt, List, [], ◌∷◌, ◌++◌, length, Bool, true, false, not, ◌&&◌, ◌||◌, Option, Some, None, Result, Ok, refl, ap, ap₂, sym, ◌∙◌, subst, arith, append_assoc, append-nil, length-append, inl, inr}
use Rattle.std.proofs.lemmas.Bool.{and_parts, or_cases, cond-true, lt-ltb, leb-true}
use Rattle.def_text.specs.Limits.{LIST_LENGTH}
use Rattle.def_text.specs.Faults.{FaultKind}
use Rattle.def_fun.specs.Tokens as token
use Rattle.def_fun.specs.Tokens.{FunToken, FunSpan}
use Rattle.def_fun.specs.Trees.{FunExpr, variable, list, list_onto, nesting_depth, is_pattern, is_variable_expr, is_list_pattern, FunHead, alone, both, FunClause}
use Rattle.def_fun.specs.Grammar.{anywhere, ArePieces, expr_pieces, has_level, is_fun_head, is_level_head, head_pieces, comma_pieces, guard_pieces, when_pieces, clause_pieces, clauses_pieces, fun_pieces, are_exprs, are_guards, is_fun_clause, are_fun_clauses, DerivesFun}
use Rattle.def_fun.specs.Limits.{CLAUSES, is_sized, each_sized, is_sized_row, are_sized_guards, is_sized_head, is_sized_clause, are_sized_clauses, clause_count, spec_clauses, head_nesting, row_nesting, guards_nesting, clauses_nesting, FunFits}
use Rattle.def_fun.specs.Reading.{ExprState, wants, has, fun_expr_step, if_none_open, ended_expr, ClauseSoFar, FunState, before_fun, before_clause, in_head, after_head, in_guard, in_fun_body, after_end, after_stop, head_of_parts, begins_head, clauses_in_guard, clauses_in_body, with_guard, with_clause, if_sized, on_step, expr_start, begin_fun, begin_clause, begin_guard, stop_fun, head_after, guard_after, body_after, ends_or, head_step, fun_step, after_fun_step, fun_run, fun_finish, read_fun}
use Rattle.def_fun_printing.proofs.ExprReads.{split_pieces, is_end, GoesOn, IsWithin, sized_in, stands_in, Passes, Reads, expr_reads}
use Rattle.def_fun_printing.proofs.Results.{same_ok}

-- ---- sizes and levels

fits_row : (b : Bool) (s : FunState) → b ≡ true → if_sized b s ≡ Ok s
fits_row true s h = refl
fits_row false s h = absurd (let no : false ≡ true = h in cc)

clauses_joined : (ks ls : List FunClause) → spec_clauses (ks ++ ls) ≡ spec_clauses ks + spec_clauses ls
clauses_joined [] ls = omega arith
clauses_joined (k ∷ ks) ls = let later = clauses_joined ks ls in omega (arith, later)

abbrev EachLevel : List FunExpr → Type 0
EachLevel [] = Unit {0}
EachLevel (e ∷ es) = (has_level 1 e ≡ true) × EachLevel es

each_level : (es : List FunExpr) → are_exprs es ≡ true → EachLevel es
each_level [] h = tt
each_level (e ∷ []) h = (h, tt)
each_level (e ∷ f ∷ es) h = let p = and_parts (has_level 1 e) (are_exprs (f ∷ es)) h in (p.0, each_level (f ∷ es) p.1)

abbrev pub EachClause : List FunClause → Type 0
EachClause [] = Unit {0}
EachClause (k ∷ ks) = (is_fun_clause k ≡ true) × EachClause ks

pub each_clause : (ks : List FunClause) → are_fun_clauses ks ≡ true → EachClause ks
each_clause [] h = tt
each_clause (k ∷ []) h = (h, tt)
each_clause (k ∷ l ∷ ks) h = let p = and_parts (is_fun_clause k) (are_fun_clauses (l ∷ ks)) h in (p.0, each_clause (l ∷ ks) p.1)

-- a part of a head is a pattern
list_is_pattern : (e : FunExpr) → is_list_pattern e ≡ true → is_pattern e ≡ true
list_is_pattern (list at es) h = h
list_is_pattern (list_onto at es e) h = h
list_is_pattern e h = absurd (let no : false ≡ true = h in cc)

variable_is_pattern : (e : FunExpr) → is_variable_expr e ≡ true → is_pattern e ≡ true
variable_is_pattern (variable at s) h = refl
variable_is_pattern e h = absurd (let no : false ≡ true = h in cc)

-- ---- steps

-- so far, of a clause with these guards
abbrev so_far : List FunClause → FunClause → List (List FunExpr) → ClauseSoFar
so_far ks k gs = record { earlier = ks; at = k.at; head = k.head; guards = gs }

module _ (limit : ℕ) where
  run_step : (s z : FunState) (x : FunSpan) (xs : List FunSpan) → fun_step limit true s x ≡ Ok z → fun_run limit true s (x ∷ xs) ≡ fun_run limit true z xs
  run_step s z x xs h = ap (λ r. after_fun_step limit true r (λ u. fun_run limit true u xs) (x ∷ xs)) h

  goes_on_or : (o : Option FunExpr) (f : FunExpr → Result FunState FaultKind → Result FunState FaultKind) (r : Result FunState FaultKind) → ((e : FunExpr) → f e r ≡ r) → ends_or limit true o f r ≡ r
  goes_on_or None f r h = refl
  goes_on_or (Some e) f r h = h e

  guard_goes_on : (c : ClauseSoFar) (es : List FunExpr) (t : FunToken) (r : Result FunState FaultKind) → is_end t ≡ false → guard_after limit true c es t r ≡ r
  guard_goes_on c es token.comma r h = absurd (let no : true ≡ false = h in cc)
  guard_goes_on c es token.semicolon r h = absurd (let no : true ≡ false = h in cc)
  guard_goes_on c es token.arrow r h = absurd (let no : true ≡ false = h in cc)
  guard_goes_on c es t r h = refl

  body_goes_on : (c : ClauseSoFar) (es : List FunExpr) (t : FunToken) (r : Result FunState FaultKind) → is_end t ≡ false → body_after limit true c es t r ≡ r
  body_goes_on c es token.comma r h = absurd (let no : true ≡ false = h in cc)
  body_goes_on c es token.semicolon r h = absurd (let no : true ≡ false = h in cc)
  body_goes_on c es token.end_word r h = absurd (let no : true ≡ false = h in cc)
  body_goes_on c es t r h = refl

  head_goes_on : (ks : List FunClause) (at : ℕ) (a : Option FunExpr) (e : FunExpr) (t : FunToken) (r : Result FunState FaultKind) → is_end t ≡ false → head_after limit true ks at a e t r ≡ r
  head_goes_on ks at a e token.close_paren r h = absurd (let no : true ≡ false = h in cc)
  head_goes_on ks at None e token.match r h = absurd (let no : true ≡ false = h in cc)
  head_goes_on ks at (Some b) e token.match r h = refl
  head_goes_on ks at a e t r h = refl

  -- an expression goes on within what it is part of
  step_within : (W : ExprState → FunState) (f : FunExpr → FunToken → Result FunState FaultKind → Result FunState FaultKind) (pattern : Bool) (s z : ExprState) (x : FunSpan) → ((e : FunExpr) (r : Result FunState FaultKind) → is_end x.token ≡ false → f e x.token r ≡ r) → fun_expr_step pattern limit true s x ≡ Ok z → GoesOn s x
      → ends_or limit true (ended_expr s) (λ e r. f e x.token r) (on_step W (fun_expr_step pattern limit true s x)) ≡ Ok (W z)
  step_within W f pattern s z x quiet h (inl open_still) = ap (λ o. ends_or limit true o (λ e r. f e x.token r) (on_step W (fun_expr_step pattern limit true s x))) open_still ∙ ap (on_step W) h
  step_within W f pattern s z x quiet h (inr no_end) = goes_on_or (ended_expr s) (λ e r. f e x.token r) (on_step W (fun_expr_step pattern limit true s x)) (λ e. quiet e _ no_end) ∙ ap (on_step W) h

  guard_step : (c : ClauseSoFar) (es : List FunExpr) (s z : ExprState) (x : FunSpan) → fun_expr_step false limit true s x ≡ Ok z → GoesOn s x → fun_step limit true (in_guard c es s) x ≡ Ok (in_guard c es z)
  guard_step c es s z x h g = step_within (in_guard c es) (λ e t r. guard_after limit true c (es ++ e ∷ []) t r) false s z x (λ e r q. guard_goes_on c (es ++ e ∷ []) x.token r q) h g

  body_step : (c : ClauseSoFar) (es : List FunExpr) (s z : ExprState) (x : FunSpan) → fun_expr_step false limit true s x ≡ Ok z → GoesOn s x → fun_step limit true (in_fun_body c es s) x ≡ Ok (in_fun_body c es z)
  body_step c es s z x h g = step_within (in_fun_body c es) (λ e t r. body_after limit true c (es ++ e ∷ []) t r) false s z x (λ e r q. body_goes_on c (es ++ e ∷ []) x.token r q) h g

  head_within : (ks : List FunClause) (at : ℕ) (a : Option FunExpr) (s z : ExprState) (x : FunSpan) → IsWithin s → fun_expr_step true limit true s x ≡ Ok z → GoesOn s x → head_step limit true ks at a s x ≡ Ok (in_head ks at a z)
  head_within ks at a (wants []) z x w h g = absurd w
  head_within ks at a (wants (f ∷ fs)) z x w h g = step_within (in_head ks at a) (λ e t r. head_after limit true ks at a e t r) true (wants (f ∷ fs)) z x (λ e r q. head_goes_on ks at a e x.token r q) h g
  head_within ks at a (has e fs) z x w h g = step_within (in_head ks at a) (λ e t r. head_after limit true ks at a e t r) true (has e fs) z x (λ d r q. head_goes_on ks at a d x.token r q) h g

  -- ---- runs of an expression's tokens

  rows_run : (W : ExprState → FunState) → ((s z : ExprState) (x : FunSpan) → fun_expr_step false limit true s x ≡ Ok z → GoesOn s x → fun_step limit true (W s) x ≡ Ok (W z)) → (s s' : ExprState) (xs rest : List FunSpan) → Passes false limit s xs s'
      → fun_run limit true (W s) (xs ++ rest) ≡ fun_run limit true (W s') rest
  rows_run W lift s s' [] rest h = ap (λ z. fun_run limit true (W z) rest) h
  rows_run W lift s s' (x ∷ xs) rest h = run_step (W s) (W h.0) x (xs ++ rest) (lift s h.0 x h.1 h.2) ∙ rows_run W lift h.0 s' xs rest h.4

  head_run : (ks : List FunClause) (at : ℕ) (a : Option FunExpr) (s s' : ExprState) (xs rest : List FunSpan) → IsWithin s → Passes true limit s xs s' → fun_run limit true (in_head ks at a s) (xs ++ rest) ≡ fun_run limit true (in_head ks at a s') rest
  head_run ks at a s s' [] rest w h = ap (λ z. fun_run limit true (in_head ks at a z) rest) h
  head_run ks at a s s' (x ∷ xs) rest w h = run_step (in_head ks at a s) (in_head ks at a h.0) x (xs ++ rest) (head_within ks at a s h.0 x w h.1 h.2) ∙ head_run ks at a h.0 s' xs rest h.3 h.4

  -- with the first token of a head
  head_from : (ks : List FunClause) (at : ℕ) (a : Option FunExpr) (s' : ExprState) (x : FunSpan) (xs rest : List FunSpan) → begins_head a x.token ≡ true → Passes true limit (wants []) (x ∷ xs) s' → fun_run limit true (in_head ks at a expr_start) (x ∷ (xs ++ rest)) ≡ fun_run limit true (in_head ks at a s') rest
  head_from ks at a s' x xs rest b h =
      run_step (in_head ks at a expr_start) (in_head ks at a h.0) x (xs ++ rest) (cond-true (begins_head a x.token) _ _ b ∙ ap (on_step (in_head ks at a)) h.1) ∙ head_run ks at a h.0 s' xs rest h.3 h.4

  -- ---- rows of expressions

  record IsRow (W : List FunExpr → ExprState → FunState) (ds all : List FunExpr) (xs rest : List FunSpan) : Type 0 where
    pub state : ExprState
    pub earlier : List FunExpr
    pub last : FunExpr
    pub run : fun_run limit true (W ds expr_start) (xs ++ rest) ≡ fun_run limit true (W earlier state) rest
    pub ended : ended_expr state ≡ Some last
    pub are : earlier ++ last ∷ [] ≡ all

  -- a row has commas
  record HasRows (W : List FunExpr → ExprState → FunState) : Type 0 where
    pub lift : (es : List FunExpr) (s z : ExprState) (x : FunSpan) → fun_expr_step false limit true s x ≡ Ok z → GoesOn s x → fun_step limit true (W es s) x ≡ Ok (W es z)
    pub comma : (es : List FunExpr) (s : ExprState) (e : FunExpr) (x : FunSpan) → ended_expr s ≡ Some e → x.token ≡ token.comma → length (es ++ e ∷ []) < LIST_LENGTH → fun_step limit true (W es s) x ≡ Ok (W (es ++ e ∷ []) expr_start)

  guard_rows : (c : ClauseSoFar) → HasRows (in_guard c)
  guard_rows c = record {
    lift = λ es s z x h g. guard_step c es s z x h g;
    comma = λ es s e x h t few.
        ap₂ (λ o u. ends_or limit true o (λ d r. guard_after limit true c (es ++ d ∷ []) u r) (on_step (in_guard c es) (fun_expr_step false limit true s x))) h t
        ∙ fits_row (not true || nat_lt (length (es ++ e ∷ [])) LIST_LENGTH) (in_guard c (es ++ e ∷ []) expr_start) (lt-ltb (length (es ++ e ∷ [])) LIST_LENGTH few);
  }

  body_rows : (c : ClauseSoFar) → HasRows (in_fun_body c)
  body_rows c = record {
    lift = λ es s z x h g. body_step c es s z x h g;
    comma = λ es s e x h t few.
        ap₂ (λ o u. ends_or limit true o (λ d r. body_after limit true c (es ++ d ∷ []) u r) (on_step (in_fun_body c es) (fun_expr_step false limit true s x))) h t
        ∙ fits_row (not true || nat_lt (length (es ++ e ∷ [])) LIST_LENGTH) (in_fun_body c (es ++ e ∷ []) expr_start) (lt-ltb (length (es ++ e ∷ [])) LIST_LENGTH few);
  }

  ended_is : (e : FunExpr) (xs : List FunSpan) (r : Reads false limit 1 [] e xs) → ended_expr (has r.operand r.parts) ≡ Some e
  ended_is e xs r = ap if_none_open (r.same 1 (omega arith))

  row_expr : (e : FunExpr) (xs : List FunSpan) → ArePieces (expr_pieces e) xs → has_level 1 e ≡ true → nesting_depth e ≤ limit → is_sized e ≡ true → Reads false limit 1 [] e xs
  row_expr e xs h l deep size = expr_reads false limit e 1 [] xs h l (omega arith) (omega (arith, deep)) (sized_in [] e size) refl (stands_in false [] e refl)

  later_rows : (W : List FunExpr → ExprState → FunState) → HasRows W → (es : List FunExpr) (f e : FunExpr) (ds : List FunExpr) (xs ys zs rest : List FunSpan) (r : Reads false limit 1 [] e ys) → ended_expr (has r.operand r.parts) ≡ Some e → xs ≡ ys ++ zs → ArePieces (anywhere token.comma ∷ comma_pieces (f ∷ es)) zs
      → length ds + (1 + length (f ∷ es)) ≤ LIST_LENGTH → ((us : List FunSpan) → ArePieces (comma_pieces (f ∷ es)) us → IsRow W (ds ++ e ∷ []) ((ds ++ e ∷ []) ++ f ∷ es) us rest) → IsRow W ds (ds ++ e ∷ f ∷ es) xs rest
  later_rows W rows es f e ds xs ys [] rest r ended split h few later = absurd h
  later_rows W rows es f e ds xs ys (x ∷ zs) rest r ended split h few later =
      let k = later zs h.1 in
      let longer = length-append ds (e ∷ []) in
      record {
        state = k.state;
        earlier = k.earlier;
        last = k.last;
        run =
            ap (λ us. fun_run limit true (W ds expr_start) us) (ap (λ us. us ++ rest) split ∙ append_assoc ys (x ∷ zs) rest)
            ∙ rows_run (W ds) (λ s z y. rows.lift ds s z y) (wants []) (has r.operand r.parts) ys (x ∷ (zs ++ rest)) r.passes
            ∙ run_step (W ds (has r.operand r.parts)) (W (ds ++ e ∷ []) expr_start) x (zs ++ rest) (rows.comma ds (has r.operand r.parts) e x ended h.0 (omega (arith, few, longer)))
            ∙ k.run;
        ended = k.ended;
        are = k.are ∙ append_assoc ds (e ∷ []) (f ∷ es);
      }

  row_reads : (W : List FunExpr → ExprState → FunState) → HasRows W → (es : List FunExpr) (e : FunExpr) (ds : List FunExpr) (xs rest : List FunSpan) → ArePieces (comma_pieces (e ∷ es)) xs → EachLevel (e ∷ es) → row_nesting (e ∷ es) ≤ limit → length ds + (1 + length es) ≤ LIST_LENGTH → each_sized (e ∷ es) ≡ true
      → IsRow W ds (ds ++ e ∷ es) xs rest
  row_reads W rows [] e ds xs rest h l deep few size =
      let r = row_expr e xs h l.0 (omega (arith, deep)) (and_parts (is_sized e) true size).0 in
      record { state = has r.operand r.parts; earlier = ds; last = e; run = rows_run (W ds) (λ s z x. rows.lift ds s z x) (wants []) (has r.operand r.parts) xs rest r.passes; ended = ended_is e xs r; are = refl }
  row_reads W rows (f ∷ es) e ds xs rest h l deep few size =
      let cut = split_pieces (expr_pieces e) (anywhere token.comma ∷ comma_pieces (f ∷ es)) xs h in
      let sizes = and_parts (is_sized e) (each_sized (f ∷ es)) size in
      let r = row_expr e cut.front cut.first l.0 (omega (arith, deep)) sizes.0 in
      later_rows W rows es f e ds xs cut.front cut.rest rest r (ended_is e cut.front r) cut.split cut.later few
      (λ us h'. row_reads W rows es f (ds ++ e ∷ []) us rest h' l.1 (omega (arith, deep)) (let longer = length-append ds (e ∷ []) in omega (arith, few, longer)) sizes.1)

  -- ---- guards

  record IsGuards (ks : List FunClause) (k : FunClause) (gs : List (List FunExpr)) (first : FunState) (xs rest : List FunSpan) : Type 0 where
    pub guards : List (List FunExpr)
    pub earlier : List FunExpr
    pub state : ExprState
    pub last : FunExpr
    pub run : fun_run limit true first (xs ++ rest) ≡ fun_run limit true (in_guard (so_far ks k guards) earlier state) rest
    pub ended : ended_expr state ≡ Some last
    pub are : guards ++ (earlier ++ last ∷ []) ∷ [] ≡ gs

  -- a semicolon after a guard
  semicolon_step : (c : ClauseSoFar) (es : List FunExpr) (s : ExprState) (e : FunExpr) (x : FunSpan) → ended_expr s ≡ Some e → x.token ≡ token.semicolon → clauses_in_guard c < CLAUSES → fun_step limit true (in_guard c es s) x ≡ Ok (in_guard (with_guard c (es ++ e ∷ [])) [] expr_start)
  semicolon_step c es s e x h t few =
      ap₂ (λ o u. ends_or limit true o (λ d r. guard_after limit true c (es ++ d ∷ []) u r) (on_step (in_guard c es) (fun_expr_step false limit true s x))) h t
      ∙ fits_row (not true || nat_lt (clauses_in_guard c) CLAUSES) (in_guard (with_guard c (es ++ e ∷ [])) [] expr_start) (lt-ltb (clauses_in_guard c) CLAUSES few)

  arrow_step : (c : ClauseSoFar) (es : List FunExpr) (s : ExprState) (e : FunExpr) (x : FunSpan) → ended_expr s ≡ Some e → x.token ≡ token.arrow → fun_step limit true (in_guard c es s) x ≡ Ok (in_fun_body (with_guard c (es ++ e ∷ [])) [] expr_start)
  arrow_step c es s e x h t = ap₂ (λ o u. ends_or limit true o (λ d r. guard_after limit true c (es ++ d ∷ []) u r) (on_step (in_guard c es) (fun_expr_step false limit true s x))) h t

  guard_row : (c : ClauseSoFar) (g : List FunExpr) (xs rest : List FunSpan) → ArePieces (comma_pieces g) xs → are_exprs g ≡ true → row_nesting g ≤ limit → is_sized_row g ≡ true → IsRow (in_guard c) [] g xs rest
  guard_row c [] xs rest h l deep size = absurd (let no : false ≡ true = l in cc)
  guard_row c (e ∷ es) xs rest h l deep size =
      let sizes = and_parts (nat_le (length (e ∷ es)) LIST_LENGTH) (each_sized (e ∷ es)) size in
      let few = leb-true (length (e ∷ es)) LIST_LENGTH sizes.0 in
      row_reads (in_guard c) (guard_rows c) es e [] xs rest h (each_level (e ∷ es) l) deep (omega (arith, few)) sizes.1

  body_row : (c : ClauseSoFar) (g : List FunExpr) (xs rest : List FunSpan) → ArePieces (comma_pieces g) xs → are_exprs g ≡ true → row_nesting g ≤ limit → is_sized_row g ≡ true → IsRow (in_fun_body c) [] g xs rest
  body_row c [] xs rest h l deep size = absurd (let no : false ≡ true = l in cc)
  body_row c (e ∷ es) xs rest h l deep size =
      let sizes = and_parts (nat_le (length (e ∷ es)) LIST_LENGTH) (each_sized (e ∷ es)) size in
      let few = leb-true (length (e ∷ es)) LIST_LENGTH sizes.0 in
      row_reads (in_fun_body c) (body_rows c) es e [] xs rest h (each_level (e ∷ es) l) deep (omega (arith, few)) sizes.1

  mutual_guards : (ks : List FunClause) (k : FunClause) (before : List (List FunExpr)) (g : List FunExpr) (r : List (List FunExpr)) (xs ys zs rest : List FunSpan) → IsRow (in_guard (so_far ks k before)) [] g ys (zs ++ rest) → xs ≡ ys ++ zs → (h : List FunExpr) (gs : List (List FunExpr)) → ArePieces (anywhere token.semicolon ∷ guard_pieces (h ∷ gs)) zs
      → spec_clauses ks + (length before + length (g ∷ h ∷ gs)) ≤ CLAUSES → ((us : List FunSpan) → ArePieces (guard_pieces (h ∷ gs)) us → IsGuards ks k ((before ++ g ∷ []) ++ h ∷ gs) (in_guard (so_far ks k (before ++ g ∷ [])) [] expr_start) us rest)
      → IsGuards ks k (before ++ g ∷ h ∷ gs) (in_guard (so_far ks k before) [] expr_start) xs rest
  mutual_guards ks k before g r xs ys [] rest row split h gs is few later = absurd is
  mutual_guards ks k before g r xs ys (x ∷ zs) rest row split h gs is few later =
      let c = so_far ks k before in
      let next = later zs is.1 in
      record {
        guards = next.guards;
        earlier = next.earlier;
        state = next.state;
        last = next.last;
        run =
            ap (λ us. fun_run limit true (in_guard c [] expr_start) us) (ap (λ us. us ++ rest) split ∙ append_assoc ys (x ∷ zs) rest)
            ∙ row.run
            ∙ run_step (in_guard c row.earlier row.state) (in_guard (with_guard c (row.earlier ++ row.last ∷ [])) [] expr_start) x (zs ++ rest) (semicolon_step c row.earlier row.state row.last x row.ended is.0 (omega (arith, few)))
            ∙ ap (λ us. fun_run limit true (in_guard (with_guard c us) [] expr_start) (zs ++ rest)) row.are
            ∙ next.run;
        ended = next.ended;
        are = next.are ∙ append_assoc before (g ∷ []) (h ∷ gs);
      }

  guards_read : (gs : List (List FunExpr)) (g : List FunExpr) (ks : List FunClause) (k : FunClause) (before : List (List FunExpr)) (xs rest : List FunSpan) → ArePieces (guard_pieces (g ∷ gs)) xs → are_guards (g ∷ gs) ≡ true → guards_nesting (g ∷ gs) ≤ limit → are_sized_guards (g ∷ gs) ≡ true → spec_clauses ks + (length before + length (g ∷ gs)) ≤ CLAUSES
      → IsGuards ks k (before ++ g ∷ gs) (in_guard (so_far ks k before) [] expr_start) xs rest
  guards_read [] g ks k before xs rest h l deep size few =
      let levels = and_parts (are_exprs g) true l in
      let sizes = and_parts (is_sized_row g) true size in
      let r = guard_row (so_far ks k before) g xs rest h levels.0 (omega (arith, deep)) sizes.0 in
      record { guards = before; earlier = r.earlier; state = r.state; last = r.last; run = r.run; ended = r.ended; are = ap (λ u. before ++ u ∷ []) r.are }
  guards_read (f ∷ gs) g ks k before xs rest h l deep size few =
      let levels = and_parts (are_exprs g) (are_guards (f ∷ gs)) l in
      let sizes = and_parts (is_sized_row g) (are_sized_guards (f ∷ gs)) size in
      let cut = split_pieces (comma_pieces g) (anywhere token.semicolon ∷ guard_pieces (f ∷ gs)) xs h in
      let r = guard_row (so_far ks k before) g cut.front (cut.rest ++ rest) cut.first levels.0 (omega (arith, deep)) sizes.0 in
      let longer = length-append before (g ∷ []) in
      mutual_guards ks k before g gs xs cut.front cut.rest rest r cut.split f gs cut.later few
      (λ us here. guards_read gs f ks k (before ++ g ∷ []) us rest here levels.1 (omega (arith, deep)) sizes.1 (omega (arith, few, longer)))

  -- ---- clauses

  record IsClauses (all : List FunClause) (total : ℕ) (first : FunState) (xs rest : List FunSpan) : Type 0 where
    pub so_far : ClauseSoFar
    pub earlier : List FunExpr
    pub state : ExprState
    pub last : FunExpr
    pub run : fun_run limit true first (xs ++ rest) ≡ fun_run limit true (in_fun_body so_far earlier state) rest
    pub ended : ended_expr state ≡ Some last
    pub are : with_clause so_far (earlier ++ last ∷ []) ≡ all
    pub counted : clauses_in_body so_far ≡ total

  -- the arrow and the body
  body_read : (ks : List FunClause) (k : FunClause) (first : FunState) (xs rest : List FunSpan) → ArePieces (anywhere token.arrow ∷ comma_pieces k.body) xs → are_exprs k.body ≡ true → row_nesting k.body ≤ limit → is_sized_row k.body ≡ true
      → ((x : FunSpan) → x.token ≡ token.arrow → fun_step limit true first x ≡ Ok (in_fun_body (so_far ks k k.guards) [] expr_start)) → IsClauses (ks ++ k ∷ []) (spec_clauses ks + clause_count k) first xs rest
  body_read ks k first [] rest h l deep size arrow = absurd h
  body_read ks k first (x ∷ xs) rest h l deep size arrow =
      let c = so_far ks k k.guards in
      let r = body_row c k.body xs rest h.1 l deep size in
      record { so_far = c; earlier = r.earlier; state = r.state; last = r.last; run = run_step first (in_fun_body c [] expr_start) x (xs ++ rest) (arrow x h.0) ∙ r.run; ended = r.ended; are = ap (with_clause c) r.are; counted = refl }

  moved : (all : List FunClause) (total : ℕ) (first next : FunState) (xs ys zs rest : List FunSpan) → xs ≡ ys ++ zs → fun_run limit true first (ys ++ (zs ++ rest)) ≡ fun_run limit true next (zs ++ rest) → IsClauses all total next zs rest → IsClauses all total first xs rest
  moved all total first next xs ys zs rest split here r = record {
    so_far = r.so_far;
    earlier = r.earlier;
    state = r.state;
    last = r.last;
    run = ap (λ us. fun_run limit true first us) (ap (λ us. us ++ rest) split ∙ append_assoc ys zs rest) ∙ here ∙ r.run;
    ended = r.ended;
    are = r.are;
    counted = r.counted;
  }

  -- what comes after a head
  guards_and_body : (ks : List FunClause) (k : FunClause) (gs : List (List FunExpr)) (xs rest : List FunSpan) → k.guards ≡ gs → ArePieces (when_pieces gs ++ anywhere token.arrow ∷ comma_pieces k.body) xs → are_guards gs ≡ true → guards_nesting gs ≤ limit → are_sized_guards gs ≡ true → spec_clauses ks + max 1 (length gs) ≤ CLAUSES
      → are_exprs k.body ≡ true → row_nesting k.body ≤ limit → is_sized_row k.body ≡ true → IsClauses (ks ++ k ∷ []) (spec_clauses ks + clause_count k) (after_head (so_far ks k [])) xs rest
  guards_and_body ks k [] xs rest is h l deep size few lb deep_b size_b =
      body_read ks k (after_head (so_far ks k [])) xs rest h lb deep_b size_b (λ x t. ap (begin_guard (so_far ks k [])) t ∙ ap (λ gs. Ok (in_fun_body (so_far ks k gs) [] expr_start)) (sym is))
  guards_and_body ks k (g ∷ gs) [] rest is h l deep size few lb deep_b size_b = absurd h
  guards_and_body ks k (g ∷ gs) (x ∷ xs) rest is h l deep size few lb deep_b size_b =
      let cut = split_pieces (guard_pieces (g ∷ gs)) (anywhere token.arrow ∷ comma_pieces k.body) xs h.1 in
      let r = guards_read gs g ks k [] cut.front (cut.rest ++ rest) cut.first l deep size (omega (arith, few)) in
      let c = so_far ks k r.guards in
      let state = in_guard c r.earlier r.state in
      let b = body_read ks k state cut.rest rest cut.later lb deep_b size_b (λ y t. arrow_step c r.earlier r.state r.last y r.ended t ∙ ap (λ us. Ok (in_fun_body (so_far ks k us) [] expr_start)) (r.are ∙ sym is)) in
      moved (ks ++ k ∷ []) (spec_clauses ks + clause_count k) (after_head (so_far ks k [])) state (x ∷ xs) (x ∷ cut.front) cut.rest rest (ap (λ us. x ∷ us) cut.split)
      (run_step (after_head (so_far ks k [])) (in_guard (so_far ks k []) [] expr_start) x (cut.front ++ (cut.rest ++ rest)) (ap (begin_guard (so_far ks k [])) h.0) ∙ r.run) b

  -- ---- heads

  record IsHeadRead (ks : List FunClause) (at : ℕ) (a : Option FunExpr) (e : FunExpr) (xs rest : List FunSpan) : Type 0 where
    pub state : ExprState
    pub run : fun_run limit true (in_head ks at a expr_start) (xs ++ rest) ≡ fun_run limit true (in_head ks at a state) rest
    pub ended : ended_expr state ≡ Some e
    pub within : IsWithin state

  head_by : (ks : List FunClause) (at : ℕ) (a : Option FunExpr) (e : FunExpr) (x : FunSpan) (xs rest : List FunSpan) → begins_head a x.token ≡ true → Reads true limit 1 [] e (x ∷ xs) → IsHeadRead ks at a e (x ∷ xs) rest
  head_by ks at a e x xs rest b r = record { state = has r.operand r.parts; run = head_from ks at a (has r.operand r.parts) x xs rest b r.passes; ended = ap if_none_open (r.same 1 (omega arith)); within = tt }

  head_expr : (e : FunExpr) (xs : List FunSpan) → ArePieces (expr_pieces e) xs → has_level 1 e ≡ true → nesting_depth e ≤ limit → is_sized e ≡ true → is_pattern e ≡ true → Reads true limit 1 [] e xs
  head_expr e xs h l deep size p = expr_reads true limit e 1 [] xs h l (omega arith) (omega (arith, deep)) (sized_in [] e size) p (stands_in true [] e refl)

  begins_variable : (a : Option FunExpr) (s : List ℕ) → begins_head a (token.variable s) ≡ true
  begins_variable None s = refl
  begins_variable (Some b) s = refl

  variable_head : (ks : List FunClause) (at : ℕ) (a : Option FunExpr) (e : FunExpr) (xs rest : List FunSpan) → is_variable_expr e ≡ true → ArePieces (expr_pieces e) xs → has_level 1 e ≡ true → nesting_depth e ≤ limit → is_sized e ≡ true → IsHeadRead ks at a e xs rest
  variable_head ks at a (variable here s) [] rest v h l deep size = absurd h
  variable_head ks at a (variable here s) (x ∷ xs) rest v h l deep size = head_by ks at a (variable here s) x xs rest (ap (begins_head a) h.0.1 ∙ begins_variable a s) (head_expr (variable here s) (x ∷ xs) h l deep size refl)
  variable_head ks at a e xs rest v h l deep size = absurd (let no : false ≡ true = v in cc)

  list_head : (ks : List FunClause) (at : ℕ) (a : Option FunExpr) (e : FunExpr) (xs rest : List FunSpan) → begins_head a token.open_bracket ≡ true → is_list_pattern e ≡ true → ArePieces (expr_pieces e) xs → has_level 1 e ≡ true → nesting_depth e ≤ limit → is_sized e ≡ true → IsHeadRead ks at a e xs rest
  list_head ks at a (list here es) [] rest b v h l deep size = absurd h
  list_head ks at a (list here es) (x ∷ xs) rest b v h l deep size = head_by ks at a (list here es) x xs rest (ap (begins_head a) h.0.1 ∙ b) (head_expr (list here es) (x ∷ xs) h l deep size (list_is_pattern (list here es) v))
  list_head ks at a (list_onto here es e) [] rest b v h l deep size = absurd h
  list_head ks at a (list_onto here es e) (x ∷ xs) rest b v h l deep size = head_by ks at a (list_onto here es e) x xs rest (ap (begins_head a) h.0.1 ∙ b) (head_expr (list_onto here es e) (x ∷ xs) h l deep size (list_is_pattern (list_onto here es e) v))
  list_head ks at a e xs rest b v h l deep size = absurd (let no : false ≡ true = v in cc)

  -- the `)` of a head
  paren_step : (ks : List FunClause) (at : ℕ) (a : Option FunExpr) (s : ExprState) (e : FunExpr) (x : FunSpan) → IsWithin s → ended_expr s ≡ Some e → x.token ≡ token.close_paren → head_step limit true ks at a s x ≡ Ok (after_head (record { earlier = ks; at = at; head = head_of_parts a e; guards = [] }))
  paren_step ks at a (wants []) e x w h t = absurd w
  paren_step ks at a (wants (f ∷ fs)) e x w h t = absurd (let no : ◌≡◌ {A = Option FunExpr} None (Some e) = h in cc)
  paren_step ks at a (has d fs) e x w h t = ap₂ (λ o u. ends_or limit true o (λ c r. head_after limit true ks at a c u r) (on_step (in_head ks at a) (fun_expr_step true limit true (has d fs) x))) h t

  match_step : (ks : List FunClause) (at : ℕ) (s : ExprState) (e : FunExpr) (x : FunSpan) → IsWithin s → ended_expr s ≡ Some e → x.token ≡ token.match → head_step limit true ks at None s x ≡ Ok (in_head ks at (Some e) expr_start)
  match_step ks at (wants []) e x w h t = absurd w
  match_step ks at (wants (f ∷ fs)) e x w h t = absurd (let no : ◌≡◌ {A = Option FunExpr} None (Some e) = h in cc)
  match_step ks at (has d fs) e x w h t = ap₂ (λ o u. ends_or limit true o (λ c r. head_after limit true ks at None c u r) (on_step (in_head ks at None) (fun_expr_step true limit true (has d fs) x))) h t

  record IsHeadDone (ks : List FunClause) (at : ℕ) (h : FunHead) (xs rest : List FunSpan) : Type 0 where
    pub part : Option FunExpr
    pub last : FunExpr
    pub state : ExprState
    pub run : fun_run limit true (in_head ks at None expr_start) (xs ++ rest) ≡ fun_run limit true (in_head ks at part state) rest
    pub ended : ended_expr state ≡ Some last
    pub within : IsWithin state
    pub are : head_of_parts part last ≡ h

  alone_done : (ks : List FunClause) (at : ℕ) (e : FunExpr) (xs rest : List FunSpan) → IsHeadRead ks at None e xs rest → IsHeadDone ks at (alone e) xs rest
  alone_done ks at e xs rest r = record { part = None; last = e; state = r.state; run = r.run; ended = r.ended; within = r.within; are = refl }

  -- a part of a head that is a variable, or where it may be a list
  part_head : (ks : List FunClause) (at : ℕ) (a : Option FunExpr) (e : FunExpr) (xs rest : List FunSpan) → (is_variable_expr e ≡ true) ⊎ ((is_list_pattern e ≡ true) × (begins_head a token.open_bracket ≡ true)) → ArePieces (expr_pieces e) xs → has_level 1 e ≡ true → nesting_depth e ≤ limit → is_sized e ≡ true → IsHeadRead ks at a e xs rest
  part_head ks at a e xs rest (inl v) h l deep size = variable_head ks at a e xs rest v h l deep size
  part_head ks at a e xs rest (inr v) h l deep size = list_head ks at a e xs rest v.1 v.0 h l deep size

  abbrev IsPart : Option FunExpr → FunExpr → Type 0
  IsPart a e = (is_variable_expr e ≡ true) ⊎ ((is_list_pattern e ≡ true) × (begins_head a token.open_bracket ≡ true))

  parts_of : (a b : FunExpr) → is_fun_head (both a b) ≡ true → IsPart None a × IsPart (Some a) b
  parts_of a b h =
      elim (or_cases (is_variable_expr a && (is_variable_expr b || is_list_pattern b)) (is_list_pattern a && is_variable_expr b) h) [
        | inl x ↦
            (let p = and_parts (is_variable_expr a) (is_variable_expr b || is_list_pattern b) x in
            let second : IsPart (Some a) b = elim (or_cases (is_variable_expr b) (is_list_pattern b) p.1) [ inl y ↦ inl y | inr y ↦ inr (y, p.0) ] in
            (inl p.0, second))
        | inr x ↦ (let p = and_parts (is_list_pattern a) (is_variable_expr b) x in (inr (p.0, refl), inl p.1))
      ]

  both_done : (ks : List FunClause) (at : ℕ) (a b : FunExpr) (xs ys zs rest : List FunSpan) → IsHeadRead ks at None a ys (zs ++ rest) → xs ≡ ys ++ zs → ArePieces (anywhere token.match ∷ expr_pieces b) zs → ((us : List FunSpan) → ArePieces (expr_pieces b) us → IsHeadRead ks at (Some a) b us rest) → IsHeadDone ks at (both a b) xs rest
  both_done ks at a b xs ys [] rest r split is later = absurd is
  both_done ks at a b xs ys (x ∷ zs) rest r split is later =
      let q = later zs is.1 in
      record {
        part = Some a;
        last = b;
        state = q.state;
        run =
            ap (λ us. fun_run limit true (in_head ks at None expr_start) us) (ap (λ us. us ++ rest) split ∙ append_assoc ys (x ∷ zs) rest)
            ∙ r.run
            ∙ run_step (in_head ks at None r.state) (in_head ks at (Some a) expr_start) x (zs ++ rest) (match_step ks at r.state a x r.within r.ended is.0)
            ∙ q.run;
        ended = q.ended;
        within = q.within;
        are = refl;
      }

  head_reads : (ks : List FunClause) (at : ℕ) (h : FunHead) (xs rest : List FunSpan) → is_fun_head h ≡ true → ArePieces (head_pieces h) xs → is_level_head h ≡ true → head_nesting h ≤ limit → is_sized_head h ≡ true → IsHeadDone ks at h xs rest
  head_reads ks at (alone e) xs rest is h l deep size =
      let part : IsPart None e = elim (or_cases (is_variable_expr e) (is_list_pattern e) is) [ inl y ↦ inl y | inr y ↦ inr (y, refl) ] in
      alone_done ks at e xs rest (part_head ks at None e xs rest part h l deep size)
  head_reads ks at (both a b) xs rest is h l deep size =
      let parts = parts_of a b is in
      let levels = and_parts (has_level 1 a) (has_level 1 b) l in
      let sizes = and_parts (is_sized a) (is_sized b) size in
      let cut = split_pieces (expr_pieces a) (anywhere token.match ∷ expr_pieces b) xs h in
      both_done ks at a b xs cut.front cut.rest rest (part_head ks at None a cut.front (cut.rest ++ rest) parts.0 cut.first levels.0 (omega (arith, deep)) sizes.0) cut.split cut.later
      (λ us here. part_head ks at (Some a) b us rest parts.1 here levels.1 (omega (arith, deep)) sizes.1)

  -- ---- clauses, and the whole

  clause_after_head : (ks : List FunClause) (k : FunClause) (xs ys zs rest : List FunSpan) → IsHeadDone ks k.at k.head ys (zs ++ rest) → xs ≡ ys ++ zs → ArePieces (anywhere token.close_paren ∷ (when_pieces k.guards ++ anywhere token.arrow ∷ comma_pieces k.body)) zs
      → ((us : List FunSpan) → ArePieces (when_pieces k.guards ++ anywhere token.arrow ∷ comma_pieces k.body) us → IsClauses (ks ++ k ∷ []) (spec_clauses ks + clause_count k) (after_head (so_far ks k [])) us rest) → IsClauses (ks ++ k ∷ []) (spec_clauses ks + clause_count k) (in_head ks k.at None expr_start) xs rest
  clause_after_head ks k xs ys [] rest r split is later = absurd is
  clause_after_head ks k xs ys (x ∷ zs) rest r split is later =
      moved (ks ++ k ∷ []) (spec_clauses ks + clause_count k) (in_head ks k.at None expr_start) (after_head (so_far ks k [])) xs (ys ++ x ∷ []) zs rest (split ∙ sym (append_assoc ys (x ∷ []) zs))
      (ap (λ us. fun_run limit true (in_head ks k.at None expr_start) us) (append_assoc ys (x ∷ []) (zs ++ rest))
      ∙ r.run
      ∙ run_step (in_head ks k.at r.part r.state) (after_head (so_far ks k [])) x (zs ++ rest) (paren_step ks k.at r.part r.state r.last x r.within r.ended is.0 ∙ ap (λ h. Ok (after_head (record { earlier = ks; at = k.at; head = h; guards = [] }))) r.are))
      (later zs is.1)

  clause_read : (ks : List FunClause) (k : FunClause) (xs rest : List FunSpan) → ArePieces (clause_pieces k) xs → is_fun_clause k ≡ true → max (head_nesting k.head) (max (guards_nesting k.guards) (row_nesting k.body)) ≤ limit → is_sized_clause k ≡ true → spec_clauses ks + clause_count k ≤ CLAUSES
      → IsClauses (ks ++ k ∷ []) (spec_clauses ks + clause_count k) (before_clause ks) xs rest
  clause_read ks k [] rest h is deep size few = absurd h
  clause_read ks k (x ∷ xs) rest h is deep size few =
      let p = and_parts (is_fun_head k.head) (is_level_head k.head && (are_guards k.guards && are_exprs k.body)) is in
      let l = and_parts (is_level_head k.head) (are_guards k.guards && are_exprs k.body) p.1 in
      let q = and_parts (are_guards k.guards) (are_exprs k.body) l.1 in
      let s = and_parts (is_sized_head k.head) (are_sized_guards k.guards && is_sized_row k.body) size in
      let t = and_parts (are_sized_guards k.guards) (is_sized_row k.body) s.1 in
      let cut = split_pieces (head_pieces k.head) (anywhere token.close_paren ∷ (when_pieces k.guards ++ anywhere token.arrow ∷ comma_pieces k.body)) xs h.1 in
      let head = head_reads ks k.at k.head cut.front (cut.rest ++ rest) p.0 cut.first l.0 (omega (arith, deep)) s.0 in
      let rest_of = clause_after_head ks k xs cut.front cut.rest rest head cut.split cut.later
      (λ us here. guards_and_body ks k k.guards us rest refl here q.0 (omega (arith, deep)) t.0 few q.1 (omega (arith, deep)) t.1) in
      moved (ks ++ k ∷ []) (spec_clauses ks + clause_count k) (before_clause ks) (in_head ks k.at None expr_start) (x ∷ xs) (x ∷ []) xs rest refl
      (run_step (before_clause ks) (in_head ks k.at None expr_start) x (xs ++ rest) (ap₂ (begin_clause ks) h.0.0 h.0.1)) rest_of

  abbrev SomeClauses : List FunClause → FunState → List FunSpan → List FunSpan → Type 0
  SomeClauses all first xs rest = (total : ℕ) × IsClauses all total first xs rest

  body_semicolon : (c : ClauseSoFar) (es : List FunExpr) (s : ExprState) (e : FunExpr) (x : FunSpan) → ended_expr s ≡ Some e → x.token ≡ token.semicolon → clauses_in_body c < CLAUSES → fun_step limit true (in_fun_body c es s) x ≡ Ok (before_clause (with_clause c (es ++ e ∷ [])))
  body_semicolon c es s e x h t few =
      ap₂ (λ o u. ends_or limit true o (λ d r. body_after limit true c (es ++ d ∷ []) u r) (on_step (in_fun_body c es) (fun_expr_step false limit true s x))) h t
      ∙ fits_row (not true || nat_lt (clauses_in_body c) CLAUSES) (before_clause (with_clause c (es ++ e ∷ []))) (lt-ltb (clauses_in_body c) CLAUSES few)

  body_end : (c : ClauseSoFar) (es : List FunExpr) (s : ExprState) (e : FunExpr) (x : FunSpan) → ended_expr s ≡ Some e → x.token ≡ token.end_word → fun_step limit true (in_fun_body c es s) x ≡ Ok (after_end (with_clause c (es ++ e ∷ [])))
  body_end c es s e x h t = ap₂ (λ o u. ends_or limit true o (λ d r. body_after limit true c (es ++ d ∷ []) u r) (on_step (in_fun_body c es) (fun_expr_step false limit true s x))) h t

  clause_then : (ks : List FunClause) (k l : FunClause) (ls : List FunClause) (xs ys zs rest : List FunSpan) → IsClauses (ks ++ k ∷ []) (spec_clauses ks + clause_count k) (before_clause ks) ys (zs ++ rest) → xs ≡ ys ++ zs → ArePieces (anywhere token.semicolon ∷ clauses_pieces (l ∷ ls)) zs → spec_clauses ks + clause_count k < CLAUSES
      → ((us : List FunSpan) → ArePieces (clauses_pieces (l ∷ ls)) us → SomeClauses ((ks ++ k ∷ []) ++ l ∷ ls) (before_clause (ks ++ k ∷ [])) us rest) → SomeClauses (ks ++ k ∷ l ∷ ls) (before_clause ks) xs rest
  clause_then ks k l ls xs ys [] rest r split is few later = absurd is
  clause_then ks k l ls xs ys (x ∷ zs) rest r split is few later =
      let next = later zs is.1 in
      let counted = r.counted in
      let all = with_clause r.so_far (r.earlier ++ r.last ∷ []) in
      let one = moved ((ks ++ k ∷ []) ++ l ∷ ls) next.0 (before_clause ks) (before_clause (ks ++ k ∷ [])) xs (ys ++ x ∷ []) zs rest (split ∙ sym (append_assoc ys (x ∷ []) zs))
      (ap (λ us. fun_run limit true (before_clause ks) us) (append_assoc ys (x ∷ []) (zs ++ rest))
      ∙ r.run
      ∙ run_step (in_fun_body r.so_far r.earlier r.state) (before_clause all) x (zs ++ rest) (body_semicolon r.so_far r.earlier r.state r.last x r.ended is.0 (omega (arith, counted, few)))
      ∙ ap (λ us. fun_run limit true (before_clause us) (zs ++ rest)) r.are)
      next.1 in
      (next.0, subst (λ us. IsClauses us next.0 (before_clause ks) xs rest) (append_assoc ks (k ∷ []) (l ∷ ls)) one)

  clauses_read : (ls : List FunClause) (k : FunClause) (ks : List FunClause) (xs rest : List FunSpan) → ArePieces (clauses_pieces (k ∷ ls)) xs → EachClause (k ∷ ls) → clauses_nesting (k ∷ ls) ≤ limit → are_sized_clauses (k ∷ ls) ≡ true → spec_clauses ks + spec_clauses (k ∷ ls) ≤ CLAUSES → SomeClauses (ks ++ k ∷ ls) (before_clause ks) xs rest
  clauses_read [] k ks xs rest h is deep size few = (spec_clauses ks + clause_count k, clause_read ks k xs rest h is.0 (omega (arith, deep)) (and_parts (is_sized_clause k) true size).0 (omega (arith, few)))
  clauses_read (m ∷ ls) k ks xs rest h is deep size few =
      let sizes = and_parts (is_sized_clause k) (are_sized_clauses (m ∷ ls)) size in
      let cut = split_pieces (clause_pieces k) (anywhere token.semicolon ∷ clauses_pieces (m ∷ ls)) xs h in
      let joined = clauses_joined ks (k ∷ []) in
      clause_then ks k m ls xs cut.front cut.rest rest (clause_read ks k cut.front (cut.rest ++ rest) cut.first is.0 (omega (arith, deep)) sizes.0 (omega (arith, few))) cut.split cut.later (omega (arith, few))
      (λ us here. clauses_read ls m (ks ++ k ∷ []) us rest here is.1 (omega (arith, deep)) sizes.1 (omega (arith, few, joined)))

  end_reads : (ks : List FunClause) (xs ys zs rest : List FunSpan) → SomeClauses ks (before_clause []) ys (zs ++ rest) → xs ≡ ys ++ zs → ArePieces (anywhere token.end_word ∷ []) zs → fun_run limit true (before_clause []) (xs ++ rest) ≡ fun_run limit true (after_end ks) rest
  end_reads ks xs ys [] rest r split is = absurd is
  end_reads ks xs ys (x ∷ zs) rest r split is =
      let c = r.1 in
      ap (λ us. fun_run limit true (before_clause []) us) (ap (λ us. us ++ rest) split ∙ append_assoc ys (x ∷ zs) rest)
      ∙ c.run
      ∙ run_step (in_fun_body c.so_far c.earlier c.state) (after_end (with_clause c.so_far (c.earlier ++ c.last ∷ []))) x (zs ++ rest) (body_end c.so_far c.earlier c.state c.last x c.ended is.0)
      ∙ ap₂ (λ us vs. fun_run limit true (after_end us) (vs ++ rest)) c.are is.1

  fun_reads : (ks : List FunClause) (xs rest : List FunSpan) → ArePieces (fun_pieces ks) xs → are_fun_clauses ks ≡ true → FunFits limit true ks → fun_run limit true before_fun (xs ++ rest) ≡ fun_run limit true (after_end ks) rest
  fun_reads [] xs rest h is fits = absurd (let no : false ≡ true = is in cc)
  fun_reads (k ∷ ks) [] rest h is fits = absurd h
  fun_reads (k ∷ ks) (x ∷ xs) rest h is fits =
      let cut = split_pieces (clauses_pieces (k ∷ ks)) (anywhere token.end_word ∷ []) xs h.1 in
      let sizes = and_parts (are_sized_clauses (k ∷ ks)) (nat_le (spec_clauses (k ∷ ks)) CLAUSES) fits.sizes in
      let few = leb-true (spec_clauses (k ∷ ks)) CLAUSES sizes.1 in
      run_step before_fun (before_clause []) x (xs ++ rest) (ap begin_fun h.0) ∙ end_reads (k ∷ ks) xs cut.front cut.rest rest (clauses_read ks k [] cut.front (cut.rest ++ rest) cut.first (each_clause (k ∷ ks) is) fits.nests sizes.0 (omega (arith, few))) cut.split cut.later

  stop_reads : (ks : List FunClause) (ts xs zs : List FunSpan) → fun_run limit true before_fun (xs ++ zs) ≡ fun_run limit true (after_end ks) zs → ts ≡ xs ++ zs → ArePieces (anywhere token.full_stop ∷ []) zs → read_fun limit true ts ≡ Ok ks
  stop_reads ks ts xs [] run split is = absurd is
  stop_reads ks ts xs (x ∷ zs) run split is =
      ap (read_fun limit true) split ∙ ap fun_finish (run ∙ run_step (after_end ks) (after_stop ks) x zs (ap (stop_fun ks) is.0) ∙ ap (λ us. fun_run limit true (after_stop ks) us) is.1)

  -- what tokens spell is read, within the limits
  pub derived_is_read : (ts : List FunSpan) (ks : List FunClause) → DerivesFun ts ks → FunFits limit true ks → read_fun limit true ts ≡ Ok ks
  derived_is_read ts ks d fits =
      elim d.tokens [
        | inl h ↦ ap (λ us. fun_finish (fun_run limit true before_fun us)) (sym (append-nil ts)) ∙ ap fun_finish (fun_reads ks ts [] h d.clauses fits)
        | inr h ↦ (let cut = split_pieces (fun_pieces ks) (anywhere token.full_stop ∷ []) ts h in stop_reads ks ts cut.front cut.rest (fun_reads ks cut.front cut.rest cut.first d.clauses fits) cut.split cut.later)
      ]

pub derived_is_one : (limit : ℕ) (ts : List FunSpan) (ks ls : List FunClause) → DerivesFun ts ks → FunFits limit true ks → DerivesFun ts ls → FunFits limit true ls → ks ≡ ls
derived_is_one limit ts ks ls d fits e more = same_ok ks ls (sym (derived_is_read limit ts ks d fits) ∙ derived_is_read limit ts ls e more)
