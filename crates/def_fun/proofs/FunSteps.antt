-- What is read as a fun is spelled by its tokens.
use Rattle.std.proofs.Common.{◌≡◌, ℕ, List, [], ◌∷◌, ◌++◌, length, Bool, true, false, not, ◌&&◌, ◌||◌, nat_le, nat_lt, cond, Option, Some, None, Result, Ok, Err, refl, ap, sym, ◌∙◌, subst, arith, append_assoc, append-nil, inl, inr}
use Rattle.std.proofs.lemmas.Bool.{and_parts, and_from}
use Rattle.def_text.specs.Faults.{FaultKind}
use Rattle.def_text.specs.Limits.{LIST_LENGTH}
use Rattle.def_fun.specs.Operators.{FunOperator, operator_binding, level_of}
use Rattle.def_fun.specs.Tokens as token
use Rattle.def_fun.specs.Tokens.{FunToken, FunSpan}
use Rattle.def_fun.specs.Trees.{FunExpr, before, between, FunClause, is_variable_expr, is_list_pattern}
use Rattle.def_fun.specs.Grammar.{Piece, at_offset, anywhere, expr_pieces, has_level, is_fun_head, is_level_head, head_pieces, comma_pieces, guard_pieces, when_pieces, clause_pieces, clauses_pieces, fun_pieces, are_exprs, are_guards, is_fun_clause, are_fun_clauses}
use Rattle.def_fun.specs.Limits.{CLAUSES}
use Rattle.def_fun.specs.Reading.{OpenPart, in_open_parens, in_open_call, in_open_list, in_open_tail, in_open_tuple, after_left, after_prefix, ExprState, wants, has, gather, fun_expr_step, if_none_open, ended_expr, ClauseSoFar, FunState, before_fun, before_clause, in_head, after_head, in_guard, in_fun_body, after_end, after_stop, head_of_parts, clauses_in_guard, clauses_in_body, with_guard, with_clause, if_sized, on_step, expr_start, head_after, guard_after, body_after, ends_or}
use Rattle.def_fun.proofs.OpenParts.{each_comma, state_pieces, AllLevel, TIGHT, StateOk, more_levels, comma_more, lower_level, IsGathered, gather_ok}
use Rattle.def_fun.proofs.ExprSteps.{IsPieceOf, step_goes, admits_tight}
use Rattle.def_fun.proofs.Heads.{HeadOk, IsHeadPart, OuterList, head_goes_on}

-- ---- an expression that ends

record Ends (s : ExprState) (e : FunExpr) : Type 0 where
  pub level : has_level 1 e ≡ true
  pub same : state_pieces s ≡ expr_pieces e

ends_by : (e : FunExpr) (fs : List OpenPart) (p : FunExpr × List OpenPart) (f : FunExpr) → IsGathered 1 e fs p → if_none_open p ≡ Some f → Ends (has e fs) f
ends_by e fs (d, []) f g h = let same : d ≡ f = cc in record { level = ap (has_level 1) (sym same) ∙ lower_level 1 g.level d g.least g.good; same = sym g.same ∙ ap expr_pieces same }
ends_by e fs (d, x ∷ gs) f g h = absurd (cc)

ended_ok : (s : ExprState) (e : FunExpr) → StateOk s → ended_expr s ≡ Some e → Ends s e
ended_ok (wants fs) e ok h = absurd (cc)
ended_ok (has d fs) e ok h = ends_by d fs (gather 1 d fs) e (gather_ok 1 TIGHT d fs (omega arith) (omega arith) ok.0 (admits_tight fs) ok.1) h

-- ---- tokens up to a state

pub comma_last : (es : List FunExpr) (e : FunExpr) → comma_pieces (es ++ e ∷ []) ≡ each_comma es ++ expr_pieces e
comma_last [] e = refl
comma_last (d ∷ []) e = sym (append_assoc (expr_pieces d) (anywhere token.comma ∷ []) (expr_pieces e))
comma_last (d ∷ f ∷ es) e = ap (λ x. expr_pieces d ++ anywhere token.comma ∷ x) (comma_last (f ∷ es) e) ∙ sym (append_assoc (expr_pieces d) (anywhere token.comma ∷ each_comma (f ∷ es)) (expr_pieces e))

pub exprs_last : (es : List FunExpr) (e : FunExpr) → AllLevel es → has_level 1 e ≡ true → are_exprs (es ++ e ∷ []) ≡ true
exprs_last [] e a h = h
exprs_last (d ∷ []) e a h = and_from (has_level 1 d) (has_level 1 e) a.0 h
exprs_last (d ∷ f ∷ es) e a h = and_from (has_level 1 d) (are_exprs ((f ∷ es) ++ e ∷ [])) a.0 (exprs_last (f ∷ es) e a.1 h)

-- guards with a semicolon after each
abbrev pub each_guard : List (List FunExpr) → List Piece
each_guard [] = []
each_guard (g ∷ gs) = comma_pieces g ++ anywhere token.semicolon ∷ each_guard gs

guard_last : (gs : List (List FunExpr)) (g : List FunExpr) → guard_pieces (gs ++ g ∷ []) ≡ each_guard gs ++ comma_pieces g
guard_last [] g = refl
guard_last (d ∷ []) g = sym (append_assoc (comma_pieces d) (anywhere token.semicolon ∷ []) (comma_pieces g))
guard_last (d ∷ f ∷ gs) g = ap (λ x. comma_pieces d ++ anywhere token.semicolon ∷ x) (guard_last (f ∷ gs) g) ∙ sym (append_assoc (comma_pieces d) (anywhere token.semicolon ∷ each_guard (f ∷ gs)) (comma_pieces g))

guard_more : (gs : List (List FunExpr)) (g : List FunExpr) → each_guard (gs ++ g ∷ []) ≡ each_guard gs ++ (comma_pieces g ++ anywhere token.semicolon ∷ [])
guard_more [] g = refl
guard_more (d ∷ gs) g = ap (λ x. comma_pieces d ++ anywhere token.semicolon ∷ x) (guard_more gs g) ∙ sym (append_assoc (comma_pieces d) (anywhere token.semicolon ∷ each_guard gs) (comma_pieces g ++ anywhere token.semicolon ∷ []))

when_last : (gs : List (List FunExpr)) (g : List FunExpr) → when_pieces (gs ++ g ∷ []) ≡ anywhere token.when_word ∷ (each_guard gs ++ comma_pieces g)
when_last [] g = refl
when_last (d ∷ gs) g = ap (λ x. anywhere token.when_word ∷ x) (guard_last (d ∷ gs) g)

guards_more : (gs : List (List FunExpr)) (g : List FunExpr) → are_guards gs ≡ true → are_exprs g ≡ true → are_guards (gs ++ g ∷ []) ≡ true
guards_more [] g a h = and_from (are_exprs g) true h refl
guards_more (d ∷ gs) g a h = let p = and_parts (are_exprs d) (are_guards gs) a in and_from (are_exprs d) (are_guards (gs ++ g ∷ [])) p.0 (guards_more gs g p.1 h)

-- clauses with a semicolon after each
abbrev pub each_clause : List FunClause → List Piece
each_clause [] = []
each_clause (k ∷ ks) = clause_pieces k ++ anywhere token.semicolon ∷ each_clause ks

clause_last : (ks : List FunClause) (k : FunClause) → clauses_pieces (ks ++ k ∷ []) ≡ each_clause ks ++ clause_pieces k
clause_last [] k = refl
clause_last (d ∷ []) k = sym (append_assoc (clause_pieces d) (anywhere token.semicolon ∷ []) (clause_pieces k))
clause_last (d ∷ f ∷ ks) k = ap (λ x. clause_pieces d ++ anywhere token.semicolon ∷ x) (clause_last (f ∷ ks) k) ∙ sym (append_assoc (clause_pieces d) (anywhere token.semicolon ∷ each_clause (f ∷ ks)) (clause_pieces k))

clause_more : (ks : List FunClause) (k : FunClause) → each_clause (ks ++ k ∷ []) ≡ each_clause ks ++ (clause_pieces k ++ anywhere token.semicolon ∷ [])
clause_more [] k = refl
clause_more (d ∷ ks) k = ap (λ x. clause_pieces d ++ anywhere token.semicolon ∷ x) (clause_more ks k) ∙ sym (append_assoc (clause_pieces d) (anywhere token.semicolon ∷ each_clause ks) (clause_pieces k ++ anywhere token.semicolon ∷ []))

abbrev pub AllClauses : List FunClause → Type 0
AllClauses [] = Unit {0}
AllClauses (k ∷ ks) = (is_fun_clause k ≡ true) × AllClauses ks

clauses_last : (ks : List FunClause) (k : FunClause) → AllClauses ks → is_fun_clause k ≡ true → are_fun_clauses (ks ++ k ∷ []) ≡ true
clauses_last [] k a h = h
clauses_last (d ∷ []) k a h = and_from (is_fun_clause d) (is_fun_clause k) a.0 h
clauses_last (d ∷ f ∷ ks) k a h = and_from (is_fun_clause d) (are_fun_clauses ((f ∷ ks) ++ k ∷ [])) a.0 (clauses_last (f ∷ ks) k a.1 h)

clauses_more : (ks : List FunClause) (k : FunClause) → AllClauses ks → is_fun_clause k ≡ true → AllClauses (ks ++ k ∷ [])
clauses_more [] k a h = (h, tt)
clauses_more (d ∷ ks) k a h = (a.0, clauses_more ks k a.1 h)

-- the part of a head before `=`, with it
abbrev pub part_pieces : Option FunExpr → List Piece
part_pieces None = []
part_pieces (Some a) = expr_pieces a ++ anywhere token.match ∷ []

-- up to the `)` of a head
abbrev pub head_end : ClauseSoFar → List Piece
head_end c = anywhere token.fun_word ∷ (each_clause c.earlier ++ at_offset c.at token.open_paren ∷ (head_pieces c.head ++ anywhere token.close_paren ∷ []))

-- up to the parts of a head, of a guard, and of a body
abbrev pub head_front : List FunClause → ℕ → List Piece
head_front ks at = anywhere token.fun_word ∷ (each_clause ks ++ at_offset at token.open_paren ∷ [])

abbrev pub guard_front : ClauseSoFar → List Piece
guard_front c = head_end c ++ anywhere token.when_word ∷ each_guard c.guards

abbrev pub body_front : ClauseSoFar → List Piece
body_front c = head_end c ++ (when_pieces c.guards ++ anywhere token.arrow ∷ [])

abbrev pub fun_state_pieces : FunState → List Piece
fun_state_pieces before_fun = []
fun_state_pieces (before_clause ks) = anywhere token.fun_word ∷ each_clause ks
fun_state_pieces (in_head ks at a s) = head_front ks at ++ (part_pieces a ++ state_pieces s)
fun_state_pieces (after_head c) = head_end c
fun_state_pieces (in_guard c es s) = guard_front c ++ (each_comma es ++ state_pieces s)
fun_state_pieces (in_fun_body c es s) = body_front c ++ (each_comma es ++ state_pieces s)
fun_state_pieces (after_end ks) = fun_pieces ks
fun_state_pieces (after_stop ks) = fun_pieces ks ++ anywhere token.full_stop ∷ []

-- a part before `=` is a variable or a list, and an expression
abbrev pub IsFirstPart : Option FunExpr → Type 0
IsFirstPart None = Unit {0}
IsFirstPart (Some a) = IsHeadPart None a × (has_level 1 a ≡ true)

pub record ClauseOk (c : ClauseSoFar) : Type 0 where
  pub earlier : AllClauses c.earlier
  pub head : is_fun_head c.head ≡ true
  pub level : is_level_head c.head ≡ true
  pub guards : are_guards c.guards ≡ true

abbrev pub FunOk : FunState → Type 0
FunOk before_fun = Unit {0}
FunOk (before_clause ks) = AllClauses ks
FunOk (in_head ks at a s) = AllClauses ks × IsFirstPart a × StateOk s × HeadOk a s
FunOk (after_head c) = ClauseOk c × (c.guards ≡ [])
FunOk (in_guard c es s) = ClauseOk c × AllLevel es × StateOk s
FunOk (in_fun_body c es s) = ClauseOk c × AllLevel es × StateOk s
FunOk (after_end ks) = are_fun_clauses ks ≡ true
FunOk (after_stop ks) = are_fun_clauses ks ≡ true

pub record FunGoes (ps : List Piece) (at : ℕ) (t : FunToken) (s : FunState) : Type 0 where
  pub ok : FunOk s
  pub piece : Piece
  pub is : IsPieceOf at t piece
  pub same : fun_state_pieces s ≡ ps ++ piece ∷ []

pub same_state : (s s' : FunState) → ◌≡◌ {A = Result FunState FaultKind} (Ok s) (Ok s') → s ≡ s'
same_state s s' h = cc

pub goes_to : (ps : List Piece) (at : ℕ) (t : FunToken) (s s' : FunState) → s ≡ s' → FunGoes ps at t s → FunGoes ps at t s'
goes_to ps at t s s' e g = subst (FunGoes ps at t) e g

-- an expression within
pub record WentOn (f : ExprState → FunState) (r : Result ExprState FaultKind) (s' : FunState) : Type 0 where
  pub state : ExprState
  pub was : r ≡ Ok state
  pub now : f state ≡ s'

pub went_on : (f : ExprState → FunState) (r : Result ExprState FaultKind) (s' : FunState) → on_step f r ≡ Ok s' → WentOn f r s'
went_on f (Ok s) s' h = record { state = s; was = refl; now = same_state (f s) s' h }
went_on f (Err k) s' h = absurd (cc)

sized_ok : (b : Bool) (s s' : FunState) → if_sized b s ≡ Ok s' → s ≡ s'
sized_ok true s s' h = same_state s s' h
sized_ok false s s' h = absurd (cc)

regroup : (ps qs rs : List Piece) (q : Piece) → ps ++ (qs ++ (rs ++ q ∷ [])) ≡ (ps ++ (qs ++ rs)) ++ q ∷ []
regroup ps qs rs q = simp append_assoc

-- tokens before those of an expression within
pub within : (ps qs : List Piece) (rs : List Piece) (q : Piece) (ss : List Piece) → ss ≡ rs ++ q ∷ [] → ps ++ (qs ++ ss) ≡ (ps ++ (qs ++ rs)) ++ q ∷ []
within ps qs rs q ss e = ap (λ x. ps ++ (qs ++ x)) e ∙ regroup ps qs rs q

-- ---- heads

stays_by : (b : Bool) (q : FunExpr × List OpenPart) (d : FunExpr) (at : ℕ) (p : FunOperator) (l : FunExpr) (g : OpenPart) (fs : List OpenPart) (e : FunExpr) → (if_none_open q ≡ Some e → ⊥) → if_none_open (cond b q (d, after_left at p l ∷ g ∷ fs)) ≡ Some e → ⊥
stays_by true q d at p l g fs e never h = never h
stays_by false q d at p l g fs e never h = absurd (cc)

or_left : (a b : Bool) → a ≡ true → (a || b) ≡ true
or_left true b h = refl
or_left false b h = absurd (cc)

or_right : (a b : Bool) → b ≡ true → (a || b) ≡ true
or_right true b h = refl
or_right false b h = h

head_parts : (a : Option FunExpr) (e : FunExpr) → IsFirstPart a → IsHeadPart a e → is_fun_head (head_of_parts a e) ≡ true
head_parts None e f (inl v) = ap (λ b. b || is_list_pattern e) v
head_parts None e f (inr l) = or_right (is_variable_expr e) (is_list_pattern e) l.0
head_parts (Some a) e (inl u, m) (inl v) = or_left (is_variable_expr a && (is_variable_expr e || is_list_pattern e)) _ (and_from (is_variable_expr a) _ u (ap (λ b. b || is_list_pattern e) v))
head_parts (Some a) e (inl u, m) (inr l) = or_left (is_variable_expr a && (is_variable_expr e || is_list_pattern e)) _ (and_from (is_variable_expr a) _ u (or_right (is_variable_expr e) (is_list_pattern e) l.0))
head_parts (Some a) e (inr u, m) (inl v) = or_right (is_variable_expr a && (is_variable_expr e || is_list_pattern e)) _ (and_from (is_list_pattern a) (is_variable_expr e) u.0 v)
head_parts (Some a) e (inr u, m) (inr l) = or_left (is_variable_expr a && (is_variable_expr e || is_list_pattern e)) _ (and_from (is_variable_expr a) _ l.1 (or_right (is_variable_expr e) (is_list_pattern e) l.0))

head_levels : (a : Option FunExpr) (e : FunExpr) → IsFirstPart a → has_level 1 e ≡ true → is_level_head (head_of_parts a e) ≡ true
head_levels None e p l = l
head_levels (Some a) e p l = and_from (has_level 1 a) (has_level 1 e) p.1 l

-- a list that is open stays open
open_stays : (d : FunExpr) (fs : List OpenPart) (e : FunExpr) → OuterList fs → if_none_open (gather 1 d fs) ≡ Some e → ⊥
open_stays d [] e o h = o
open_stays d (in_open_parens at ∷ fs) e o h = absurd (cc)
open_stays d (in_open_call at s es ∷ fs) e o h = absurd (cc)
open_stays d (in_open_list at es ∷ fs) e o h = absurd (cc)
open_stays d (in_open_tail at es ∷ fs) e o h = absurd (cc)
open_stays d (in_open_tuple at es ∷ fs) e o h = absurd (cc)
open_stays d (after_prefix at p ∷ []) e o h = o
open_stays d (after_prefix at p ∷ g ∷ fs) e o h = open_stays (before at p d) (g ∷ fs) e o h
open_stays d (after_left at p l ∷ []) e o h = o
open_stays d (after_left at p l ∷ g ∷ fs) e o h = stays_by (nat_le 1 (level_of (operator_binding p))) (gather 1 (between at p l d) (g ∷ fs)) d at p l g fs e (λ k. open_stays (between at p l d) (g ∷ fs) e o k) h

-- a part that ends is one
whole_part : (a : Option FunExpr) (s : ExprState) (e : FunExpr) → HeadOk a s → ended_expr s ≡ Some e → IsHeadPart a e
whole_part a (wants fs) e ok h = absurd (cc)
whole_part a (has d []) e ok h = let same : d ≡ e = cc in subst (IsHeadPart a) same ok.1
whole_part a (has d (f ∷ fs)) e ok h = absurd (open_stays d (f ∷ fs) e ok.1 h)

head_pieces_of : (a : Option FunExpr) (e : FunExpr) → head_pieces (head_of_parts a e) ≡ part_pieces a ++ expr_pieces e
head_pieces_of None e = refl
head_pieces_of (Some a) e = sym (append_assoc (expr_pieces a) (anywhere token.match ∷ []) (expr_pieces e))

-- ---- what ends and what begins

closes_regroup : (f : Piece) (ks : List Piece) (o : Piece) (ps ss : List Piece) (c : Piece) → f ∷ (ks ++ o ∷ ((ps ++ ss) ++ c ∷ [])) ≡ ((f ∷ (ks ++ o ∷ [])) ++ (ps ++ ss)) ++ c ∷ []
closes_regroup f ks o ps ss c = simp append_assoc

match_regroup : (hs es : List Piece) (m : Piece) → hs ++ ((es ++ m ∷ []) ++ []) ≡ (hs ++ es) ++ m ∷ []
match_regroup hs es m = simp (append_assoc, append-nil)

row_regroup : (ps cs es : List Piece) (m : Piece) → ps ++ ((cs ++ (es ++ m ∷ [])) ++ []) ≡ (ps ++ (cs ++ es)) ++ m ∷ []
row_regroup ps cs es m = simp (append_assoc, append-nil)

semicolon_regroup : (hs : List Piece) (w : Piece) (gs rs : List Piece) (m : Piece) → (hs ++ w ∷ (gs ++ (rs ++ m ∷ []))) ++ [] ≡ ((hs ++ w ∷ gs) ++ rs) ++ m ∷ []
semicolon_regroup hs w gs rs m = simp (append_assoc, append-nil)

arrow_regroup : (hs : List Piece) (w : Piece) (gs rs : List Piece) (m : Piece) → (hs ++ ((w ∷ (gs ++ rs)) ++ m ∷ [])) ++ [] ≡ ((hs ++ w ∷ gs) ++ rs) ++ m ∷ []
arrow_regroup hs w gs rs m = simp (append_assoc, append-nil)

clause_regroup : (f : Piece) (ks : List Piece) (o : Piece) (hs : List Piece) (c : Piece) (ws : List Piece) (a : Piece) (rs : List Piece) → ((f ∷ (ks ++ o ∷ (hs ++ c ∷ []))) ++ (ws ++ a ∷ [])) ++ rs ≡ f ∷ (ks ++ o ∷ (hs ++ c ∷ (ws ++ a ∷ rs)))
clause_regroup f ks o hs c ws a rs = simp append_assoc

-- a goal, with the tokens before
goes_from : (ps qs : List Piece) (at : ℕ) (t : FunToken) (s : FunState) → qs ≡ ps → FunGoes qs at t s → FunGoes ps at t s
goes_from ps qs at t s e g = record { ok = g.ok; piece = g.piece; is = g.is; same = g.same ∙ ap (λ x. x ++ g.piece ∷ []) e }

pub any_goes : (ps : List Piece) (at : ℕ) (t : FunToken) (s : FunState) → FunOk s → fun_state_pieces s ≡ ps ++ anywhere t ∷ [] → FunGoes ps at t s
any_goes ps at t s ok h = record { ok = ok; piece = anywhere t; is = inr refl; same = h }

head_closes : (ks : List FunClause) (at : ℕ) (a : Option FunExpr) (e : FunExpr) (ss : List Piece) → ss ≡ expr_pieces e → head_end (record { earlier = ks; at = at; head = head_of_parts a e; guards = [] }) ≡ (head_front ks at ++ (part_pieces a ++ ss)) ++ anywhere token.close_paren ∷ []
head_closes ks at a e ss h =
    ap (λ x. anywhere token.fun_word ∷ (each_clause ks ++ at_offset at token.open_paren ∷ (x ++ anywhere token.close_paren ∷ []))) (head_pieces_of a e ∙ ap (λ x. part_pieces a ++ x) (sym h))
    ∙ closes_regroup (anywhere token.fun_word) (each_clause ks) (at_offset at token.open_paren) (part_pieces a) ss (anywhere token.close_paren)

-- after a part of a head that may end
head_token : (ks : List FunClause) (at : ℕ) (a : Option FunExpr) (s : ExprState) (e : FunExpr) (here : ℕ) (t : FunToken) (r : Result FunState FaultKind) (s' : FunState) (limit : ℕ) (sized : Bool) → FunOk (in_head ks at a s) → IsHeadPart a e → has_level 1 e ≡ true → state_pieces s ≡ expr_pieces e
    → (r ≡ Ok s' → FunGoes (fun_state_pieces (in_head ks at a s)) here t s') → head_after limit sized ks at a e t r ≡ Ok s' → FunGoes (fun_state_pieces (in_head ks at a s)) here t s'
head_token ks at a s e here token.close_paren r s' limit sized ok p l same later h =
    goes_to _ here token.close_paren _ s' (same_state _ s' h) (any_goes _ here token.close_paren _ (record { earlier = ok.0; head = head_parts a e ok.1 p; level = head_levels a e ok.1 l; guards = refl }, refl) (head_closes ks at a e (state_pieces s) same))
head_token ks at None s e here token.match r s' limit sized ok p l same later h =
    goes_to _ here token.match _ s' (same_state _ s' h) (any_goes _ here token.match _ (ok.0, (p, l), tt, tt) (match_regroup (head_front ks at) (expr_pieces e) (anywhere token.match) ∙ ap (λ x. (head_front ks at ++ x) ++ anywhere token.match ∷ []) (sym same)))
head_token ks at (Some b) s e here token.match r s' limit sized ok p l same later h = later h
head_token ks at a s e here t r s' limit sized ok p l same later h = later h

guard_ok : (c : ClauseSoFar) (g : List FunExpr) → ClauseOk c → are_exprs g ≡ true → ClauseOk (with_guard c g)
guard_ok c g ok h = record { earlier = ok.earlier; head = ok.head; level = ok.level; guards = guards_more c.guards g ok.guards h }

-- a comma after an expression of a row
row_comma : (ps : List Piece) (es : List FunExpr) (e : FunExpr) (ss : List Piece) → ss ≡ expr_pieces e → ps ++ (each_comma (es ++ e ∷ []) ++ []) ≡ (ps ++ (each_comma es ++ ss)) ++ anywhere token.comma ∷ []
row_comma ps es e ss h = ap (λ x. ps ++ (x ++ [])) (comma_more es e) ∙ row_regroup ps (each_comma es) (expr_pieces e) (anywhere token.comma) ∙ ap (λ x. (ps ++ (each_comma es ++ x)) ++ anywhere token.comma ∷ []) (sym h)

-- a whole row
row_pieces : (es : List FunExpr) (e : FunExpr) (ss : List Piece) → ss ≡ expr_pieces e → comma_pieces (es ++ e ∷ []) ≡ each_comma es ++ ss
row_pieces es e ss h = comma_last es e ∙ ap (λ x. each_comma es ++ x) (sym h)

guard_token : (c : ClauseSoFar) (es : List FunExpr) (s : ExprState) (e : FunExpr) (here : ℕ) (t : FunToken) (r : Result FunState FaultKind) (s' : FunState) (limit : ℕ) (sized : Bool) → FunOk (in_guard c es s) → has_level 1 e ≡ true → state_pieces s ≡ expr_pieces e
    → (r ≡ Ok s' → FunGoes (fun_state_pieces (in_guard c es s)) here t s') → guard_after limit sized c (es ++ e ∷ []) t r ≡ Ok s' → FunGoes (fun_state_pieces (in_guard c es s)) here t s'
guard_token c es s e here token.comma r s' limit sized ok l same later h =
    goes_to _ here token.comma _ s' (sized_ok (not sized || nat_lt (length (es ++ e ∷ [])) LIST_LENGTH) _ s' h) (any_goes _ here token.comma _ (ok.0, more_levels es e ok.1 l, tt) (row_comma (guard_front c) es e (state_pieces s) same))
guard_token c es s e here token.semicolon r s' limit sized ok l same later h =
    let g = es ++ e ∷ [] in
    goes_to _ here token.semicolon _ s' (sized_ok (not sized || nat_lt (clauses_in_guard c) CLAUSES) (in_guard (with_guard c g) [] expr_start) s' h) (any_goes _ here token.semicolon (in_guard (with_guard c g) [] expr_start) (guard_ok c g ok.0 (exprs_last es e ok.1 l), tt, tt)
    (ap (λ x. (head_end c ++ anywhere token.when_word ∷ x) ++ []) (guard_more c.guards g ∙ ap (λ x. each_guard c.guards ++ (x ++ anywhere token.semicolon ∷ [])) (row_pieces es e (state_pieces s) same))
    ∙ semicolon_regroup (head_end c) (anywhere token.when_word) (each_guard c.guards) (each_comma es ++ state_pieces s) (anywhere token.semicolon)))
guard_token c es s e here token.arrow r s' limit sized ok l same later h =
    let g = es ++ e ∷ [] in
    goes_to _ here token.arrow _ s' (same_state (in_fun_body (with_guard c g) [] expr_start) s' h) (any_goes _ here token.arrow (in_fun_body (with_guard c g) [] expr_start) (guard_ok c g ok.0 (exprs_last es e ok.1 l), tt, tt)
    (ap (λ x. (head_end c ++ (x ++ anywhere token.arrow ∷ [])) ++ []) (when_last c.guards g ∙ ap (λ x. anywhere token.when_word ∷ (each_guard c.guards ++ x)) (row_pieces es e (state_pieces s) same))
    ∙ arrow_regroup (head_end c) (anywhere token.when_word) (each_guard c.guards) (each_comma es ++ state_pieces s) (anywhere token.arrow)))
guard_token c es s e here t r s' limit sized ok l same later h = later h

clause_ok : (c : ClauseSoFar) (b : List FunExpr) → ClauseOk c → are_exprs b ≡ true → is_fun_clause (record { at = c.at; head = c.head; guards = c.guards; body = b }) ≡ true
clause_ok c b ok h =
    let parts = and_from (are_guards c.guards) (are_exprs b) ok.guards h in
    and_from (is_fun_head c.head) (is_level_head c.head && (are_guards c.guards && are_exprs b)) ok.head (and_from (is_level_head c.head) (are_guards c.guards && are_exprs b) ok.level parts)

-- a clause with its body, after the clauses before it
clause_ends : (c : ClauseSoFar) (es : List FunExpr) (e : FunExpr) (ss : List Piece) → ss ≡ expr_pieces e → body_front c ++ (each_comma es ++ ss) ≡ anywhere token.fun_word ∷ (each_clause c.earlier ++ clause_pieces (record { at = c.at; head = c.head; guards = c.guards; body = es ++ e ∷ [] }))
clause_ends c es e ss h =
    clause_regroup (anywhere token.fun_word) (each_clause c.earlier) (at_offset c.at token.open_paren) (head_pieces c.head) (anywhere token.close_paren) (when_pieces c.guards) (anywhere token.arrow) (each_comma es ++ ss)
    ∙ ap (λ x. anywhere token.fun_word ∷ (each_clause c.earlier ++ at_offset c.at token.open_paren ∷ (head_pieces c.head ++ anywhere token.close_paren ∷ (when_pieces c.guards ++ anywhere token.arrow ∷ x)))) (sym (row_pieces es e ss h))

body_token : (c : ClauseSoFar) (es : List FunExpr) (s : ExprState) (e : FunExpr) (here : ℕ) (t : FunToken) (r : Result FunState FaultKind) (s' : FunState) (limit : ℕ) (sized : Bool) → FunOk (in_fun_body c es s) → has_level 1 e ≡ true → state_pieces s ≡ expr_pieces e
    → (r ≡ Ok s' → FunGoes (fun_state_pieces (in_fun_body c es s)) here t s') → body_after limit sized c (es ++ e ∷ []) t r ≡ Ok s' → FunGoes (fun_state_pieces (in_fun_body c es s)) here t s'
body_token c es s e here token.comma r s' limit sized ok l same later h =
    goes_to _ here token.comma _ s' (sized_ok (not sized || nat_lt (length (es ++ e ∷ [])) LIST_LENGTH) _ s' h) (any_goes _ here token.comma _ (ok.0, more_levels es e ok.1 l, tt) (row_comma (body_front c) es e (state_pieces s) same))
body_token c es s e here token.semicolon r s' limit sized ok l same later h =
    let b = es ++ e ∷ [] in
    let k : FunClause = record { at = c.at; head = c.head; guards = c.guards; body = b } in
    goes_to _ here token.semicolon _ s' (sized_ok (not sized || nat_lt (clauses_in_body c) CLAUSES) (before_clause (with_clause c b)) s' h) (any_goes _ here token.semicolon (before_clause (with_clause c b)) (clauses_more c.earlier k ok.0.earlier (clause_ok c b ok.0 (exprs_last es e ok.1 l)))
    (ap (λ x. anywhere token.fun_word ∷ x) (clause_more c.earlier k) ∙ sym (ap (λ x. x ++ anywhere token.semicolon ∷ []) (clause_ends c es e (state_pieces s) same) ∙ ap (λ x. anywhere token.fun_word ∷ x) (append_assoc (each_clause c.earlier) (clause_pieces k) (anywhere token.semicolon ∷ [])))))
body_token c es s e here token.end_word r s' limit sized ok l same later h =
    let b = es ++ e ∷ [] in
    let k : FunClause = record { at = c.at; head = c.head; guards = c.guards; body = b } in
    goes_to _ here token.end_word _ s' (same_state (after_end (with_clause c b)) s' h) (any_goes _ here token.end_word (after_end (with_clause c b)) (clauses_last c.earlier k ok.0.earlier (clause_ok c b ok.0 (exprs_last es e ok.1 l)))
    (ap (λ x. anywhere token.fun_word ∷ (x ++ anywhere token.end_word ∷ [])) (clause_last c.earlier k) ∙ ap (λ x. x ++ anywhere token.end_word ∷ []) (sym (clause_ends c es e (state_pieces s) same))))
body_token c es s e here t r s' limit sized ok l same later h = later h

module _ (limit : ℕ) (sized : Bool) where
  -- a step within a head
  head_within : (ks : List FunClause) (at : ℕ) (a : Option FunExpr) (s : ExprState) (x : FunSpan) (s' : FunState) → FunOk (in_head ks at a s) → (s ≡ wants [] → ⊥) → on_step (in_head ks at a) (fun_expr_step true limit sized s x) ≡ Ok s' → FunGoes (fun_state_pieces (in_head ks at a s)) x.from x.token s'
  head_within ks at a s x s' ok started h =
      let w = went_on (in_head ks at a) (fun_expr_step true limit sized s x) s' h in
      let g = step_goes true limit sized s x w.state ok.2 w.was in
      let p = head_goes_on limit sized a s x w.state ok.3 started w.was in
      goes_to _ x.from x.token (in_head ks at a w.state) s' w.now (record { ok = (ok.0, ok.1, g.ok, p); piece = g.piece; is = g.is; same = within (head_front ks at) (part_pieces a) (state_pieces s) g.piece (state_pieces w.state) g.same })

  guard_within : (c : ClauseSoFar) (es : List FunExpr) (s : ExprState) (x : FunSpan) (s' : FunState) → FunOk (in_guard c es s) → on_step (in_guard c es) (fun_expr_step false limit sized s x) ≡ Ok s' → FunGoes (fun_state_pieces (in_guard c es s)) x.from x.token s'
  guard_within c es s x s' ok h =
      let w = went_on (in_guard c es) (fun_expr_step false limit sized s x) s' h in
      let g = step_goes false limit sized s x w.state ok.2 w.was in
      goes_to _ x.from x.token (in_guard c es w.state) s' w.now (record { ok = (ok.0, ok.1, g.ok); piece = g.piece; is = g.is; same = within (guard_front c) (each_comma es) (state_pieces s) g.piece (state_pieces w.state) g.same })

  body_within : (c : ClauseSoFar) (es : List FunExpr) (s : ExprState) (x : FunSpan) (s' : FunState) → FunOk (in_fun_body c es s) → on_step (in_fun_body c es) (fun_expr_step false limit sized s x) ≡ Ok s' → FunGoes (fun_state_pieces (in_fun_body c es s)) x.from x.token s'
  body_within c es s x s' ok h =
      let w = went_on (in_fun_body c es) (fun_expr_step false limit sized s x) s' h in
      let g = step_goes false limit sized s x w.state ok.2 w.was in
      goes_to _ x.from x.token (in_fun_body c es w.state) s' w.now (record { ok = (ok.0, ok.1, g.ok); piece = g.piece; is = g.is; same = within (body_front c) (each_comma es) (state_pieces s) g.piece (state_pieces w.state) g.same })

  pub guard_by : (c : ClauseSoFar) (es : List FunExpr) (s : ExprState) (x : FunSpan) (s' : FunState) (o : Option FunExpr) → ended_expr s ≡ o → FunOk (in_guard c es s) → ends_or limit sized o (λ e r. guard_after limit sized c (es ++ e ∷ []) x.token r) (on_step (in_guard c es) (fun_expr_step false limit sized s x)) ≡ Ok s' → FunGoes (fun_state_pieces (in_guard c es s)) x.from x.token s'
  guard_by c es s x s' None e ok h = guard_within c es s x s' ok h
  guard_by c es s x s' (Some d) e ok h = let q = ended_ok s d ok.2 e in guard_token c es s d x.from x.token (on_step (in_guard c es) (fun_expr_step false limit sized s x)) s' limit sized ok q.level q.same (λ k. guard_within c es s x s' ok k) h

  pub body_by : (c : ClauseSoFar) (es : List FunExpr) (s : ExprState) (x : FunSpan) (s' : FunState) (o : Option FunExpr) → ended_expr s ≡ o → FunOk (in_fun_body c es s) → ends_or limit sized o (λ e r. body_after limit sized c (es ++ e ∷ []) x.token r) (on_step (in_fun_body c es) (fun_expr_step false limit sized s x)) ≡ Ok s' → FunGoes (fun_state_pieces (in_fun_body c es s)) x.from x.token s'
  body_by c es s x s' None e ok h = body_within c es s x s' ok h
  body_by c es s x s' (Some d) e ok h = let q = ended_ok s d ok.2 e in body_token c es s d x.from x.token (on_step (in_fun_body c es) (fun_expr_step false limit sized s x)) s' limit sized ok q.level q.same (λ k. body_within c es s x s' ok k) h

  pub head_by : (ks : List FunClause) (at : ℕ) (a : Option FunExpr) (s : ExprState) (x : FunSpan) (s' : FunState) (o : Option FunExpr) → ended_expr s ≡ o → FunOk (in_head ks at a s) → (s ≡ wants [] → ⊥) → ends_or limit sized o (λ e r. head_after limit sized ks at a e x.token r) (on_step (in_head ks at a) (fun_expr_step true limit sized s x)) ≡ Ok s'
      → FunGoes (fun_state_pieces (in_head ks at a s)) x.from x.token s'
  head_by ks at a s x s' None e ok started h = head_within ks at a s x s' ok started h
  head_by ks at a s x s' (Some d) e ok started h = let q = ended_ok s d ok.2 e in head_token ks at a s d x.from x.token (on_step (in_head ks at a) (fun_expr_step true limit sized s x)) s' limit sized ok (whole_part a s d ok.3 e) q.level q.same (λ k. head_within ks at a s x s' ok started k) h
