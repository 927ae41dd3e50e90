-- A fun that is read is spelled by the tokens.
use Rattle.std.proofs.Common.{◌≡◌, ℕ, List, [], ◌∷◌, ◌++◌, length, Bool, true, false, cond, Option, Some, None, Result, Ok, Err, refl, ap, sym, ◌∙◌, subst, append_assoc, append-nil, inl, inr}
use Rattle.def_term.specs.Atoms.{ATOM_LENGTH}
use Rattle.def_text.specs.Faults.{FaultKind, misplaced}
use Rattle.def_fun.specs.Tokens as token
use Rattle.def_fun.specs.Tokens.{FunToken, FunSpan}
use Rattle.def_fun.specs.Trees.{FunExpr, variable, FunClause}
use Rattle.def_fun.specs.Grammar.{Piece, at_offset, anywhere, IsPiece, ArePieces, when_pieces, fun_pieces, are_fun_clauses, DerivesFun}
use Rattle.def_fun.specs.Reading.{in_open_list, ExprState, wants, has, has_level_left, at_most_there, operand_at, fun_expr_step, ended_expr, ClauseSoFar, FunState, before_fun, before_clause, in_head, after_head, in_guard, in_fun_body, after_end, after_stop, begins_head, on_step, expr_start, begin_fun, begin_clause, begin_guard, stop_fun, FunFault, head_step, fun_step, after_fun_step, fun_run, fun_end, fun_finish, read_fun}
use Rattle.def_fun.proofs.OpenParts.{state_pieces}
use Rattle.def_fun.proofs.ExprSteps.{IsPieceOf, placed_ok, step_goes}
use Rattle.def_fun.proofs.Heads.{HeadOk, MayList, head_to}
use Rattle.def_fun.proofs.FunSteps.{head_end, guard_front, each_guard, head_front, part_pieces, fun_state_pieces, FunOk, FunGoes, same_state, goes_to, any_goes, went_on, within, guard_by, body_by, head_by}

may_list : (a : Option FunExpr) → begins_head a token.open_bracket ≡ true → MayList a
may_list None h = tt
may_list (Some b) h = h

if_begins : (b : Bool) (r : Result FunState FaultKind) (s' : FunState) → ◌≡◌ {A = Result FunState FaultKind} (cond b r (Err misplaced)) (Ok s') → (b ≡ true) × (r ≡ Ok s')
if_begins true r s' h = (refl, h)
if_begins false r s' h = absurd (cc)

module _ (limit : ℕ) (sized : Bool) where
  -- the first token of a part of a head
  begun : (a : Option FunExpr) (at : ℕ) (t : FunToken) (w : ExprState) → begins_head a t ≡ true → operand_at true limit sized [] at t ≡ Ok w → HeadOk a w
  begun a at (token.variable s) w b h = head_to a _ w (placed_ok true true (at_most_there true limit sized (length s) ATOM_LENGTH) (has (variable at s) []) w h).3 (refl, inl refl)
  begun a at token.open_bracket w b h = head_to a _ w (placed_ok true (has_level_left true limit sized []) true (wants (in_open_list at [] ∷ [])) w h).3 ((tt, tt), tt, may_list a b)
  begun None at t w b h = absurd (cc)
  begun (Some d) at t w b h = absurd (cc)

  head_start : (ks : List FunClause) (at : ℕ) (a : Option FunExpr) (x : FunSpan) (s' : FunState) → FunOk (in_head ks at a (wants [])) → head_step limit sized ks at a (wants []) x ≡ Ok s' → FunGoes (fun_state_pieces (in_head ks at a (wants []))) x.from x.token s'
  head_start ks at a x s' ok h =
      let b = if_begins (begins_head a x.token) (on_step (in_head ks at a) (fun_expr_step true limit sized (wants []) x)) s' h in
      let w = went_on (in_head ks at a) (fun_expr_step true limit sized (wants []) x) s' b.1 in
      let g = step_goes true limit sized (wants []) x w.state ok.2 w.was in
      goes_to _ x.from x.token (in_head ks at a w.state) s' w.now (record { ok = (ok.0, ok.1, g.ok, begun a x.from x.token w.state b.0 w.was); piece = g.piece; is = g.is; same = within (head_front ks at) (part_pieces a) [] g.piece (state_pieces w.state) g.same })

  head_goes : (ks : List FunClause) (at : ℕ) (a : Option FunExpr) (s : ExprState) (x : FunSpan) (s' : FunState) → FunOk (in_head ks at a s) → head_step limit sized ks at a s x ≡ Ok s' → FunGoes (fun_state_pieces (in_head ks at a s)) x.from x.token s'
  head_goes ks at a (wants []) x s' ok h = head_start ks at a x s' ok h
  head_goes ks at a (wants (f ∷ fs)) x s' ok h = head_by limit sized ks at a (wants (f ∷ fs)) x s' (ended_expr (wants (f ∷ fs))) refl ok (λ e. absurd (cc)) h
  head_goes ks at a (has d fs) x s' ok h = head_by limit sized ks at a (has d fs) x s' (ended_expr (has d fs)) refl ok (λ e. absurd (cc)) h

  -- ---- the tokens between

  fun_begins : (at : ℕ) (t : FunToken) (s' : FunState) → begin_fun t ≡ Ok s' → FunGoes [] at t s'
  fun_begins at token.fun_word s' h = goes_to _ at _ (before_clause []) s' (same_state _ s' h) (any_goes [] at token.fun_word (before_clause []) tt refl)
  fun_begins at t s' h = absurd (cc)

  clause_begins : (ks : List FunClause) (at : ℕ) (t : FunToken) (s' : FunState) → FunOk (before_clause ks) → begin_clause ks at t ≡ Ok s' → FunGoes (fun_state_pieces (before_clause ks)) at t s'
  clause_begins ks at token.open_paren s' ok h =
      goes_to _ at _ (in_head ks at None expr_start) s' (same_state _ s' h) (record { ok = (ok, tt, tt, tt); piece = at_offset at token.open_paren; is = inl refl; same = append-nil (head_front ks at) })
  clause_begins ks at t s' ok h = absurd (cc)

  guard_begins : (c : ClauseSoFar) (at : ℕ) (t : FunToken) (s' : FunState) → FunOk (after_head c) → begin_guard c t ≡ Ok s' → FunGoes (fun_state_pieces (after_head c)) at t s'
  guard_begins c at token.when_word s' ok h =
      goes_to _ at _ (in_guard c [] expr_start) s' (same_state _ s' h) (any_goes _ at token.when_word (in_guard c [] expr_start) (ok.0, tt, tt) (append-nil (guard_front c) ∙ ap (λ gs. head_end c ++ anywhere token.when_word ∷ each_guard gs) ok.1))
  guard_begins c at token.arrow s' ok h =
      goes_to _ at _ (in_fun_body c [] expr_start) s' (same_state _ s' h) (any_goes _ at token.arrow (in_fun_body c [] expr_start) (ok.0, tt, tt) (append-nil _ ∙ ap (λ gs. head_end c ++ (when_pieces gs ++ anywhere token.arrow ∷ [])) ok.1))
  guard_begins c at t s' ok h = absurd (cc)

  fun_stops : (ks : List FunClause) (at : ℕ) (t : FunToken) (s' : FunState) → FunOk (after_end ks) → stop_fun ks t ≡ Ok s' → FunGoes (fun_state_pieces (after_end ks)) at t s'
  fun_stops ks at token.full_stop s' ok h = goes_to _ at _ (after_stop ks) s' (same_state _ s' h) (any_goes _ at token.full_stop (after_stop ks) ok refl)
  fun_stops ks at t s' ok h = absurd (cc)

  -- one token
  pub fun_goes : (s : FunState) (x : FunSpan) (s' : FunState) → FunOk s → fun_step limit sized s x ≡ Ok s' → FunGoes (fun_state_pieces s) x.from x.token s'
  fun_goes before_fun x s' ok h = fun_begins x.from x.token s' h
  fun_goes (before_clause ks) x s' ok h = clause_begins ks x.from x.token s' ok h
  fun_goes (in_head ks at a s) x s' ok h = head_goes ks at a s x s' ok h
  fun_goes (after_head c) x s' ok h = guard_begins c x.from x.token s' ok h
  fun_goes (in_guard c es s) x s' ok h = guard_by limit sized c es s x s' (ended_expr s) refl ok h
  fun_goes (in_fun_body c es s) x s' ok h = body_by limit sized c es s x s' (ended_expr s) refl ok h
  fun_goes (after_end ks) x s' ok h = fun_stops ks x.from x.token s' ok h
  fun_goes (after_stop ks) x s' ok h = absurd (cc)

-- ---- tokens and their pieces

is_piece : (x : FunSpan) (q : Piece) → IsPieceOf x.from x.token q → IsPiece q x
is_piece x q (inl e) = subst (λ p. IsPiece p x) (sym e) (refl, refl)
is_piece x q (inr e) = subst (λ p. IsPiece p x) (sym e) refl

pub one_more_piece : (ps : List Piece) (ts : List FunSpan) (q : Piece) (x : FunSpan) → ArePieces ps ts → IsPiece q x → ArePieces (ps ++ q ∷ []) (ts ++ x ∷ [])
one_more_piece [] ts q x h i = subst (λ us. ArePieces (q ∷ []) (us ++ x ∷ [])) (sym h) (i, refl)
one_more_piece (p ∷ ps) [] q x h i = absurd h
one_more_piece (p ∷ ps) (t ∷ ts) q x h i = (h.0, one_more_piece ps ts q x h.1 i)

record Reached (s : FunState) (ts : List FunSpan) : Type 0 where
  pub ok : FunOk s
  pub tokens : ArePieces (fun_state_pieces s) ts

went_further : (r : Result FunState FaultKind) (go : FunState → Result FunState FunFault) (ts : List FunSpan) (s : FunState) (limit : ℕ) (sized : Bool) → after_fun_step limit sized r go ts ≡ Ok s → (z : FunState) × (r ≡ Ok z) × (go z ≡ Ok s)
went_further (Ok z) go ts s limit sized h = (z, refl, h)
went_further (Err k) go ts s limit sized h = absurd (cc)

same_reached : (s s' : FunState) → ◌≡◌ {A = Result FunState FunFault} (Ok s) (Ok s') → s ≡ s'
same_reached s s' h = cc

run_reaches : (limit : ℕ) (sized : Bool) (s : FunState) (ts xs : List FunSpan) (s' : FunState) → Reached s ts → fun_run limit sized s xs ≡ Ok s' → Reached s' (ts ++ xs)
run_reaches limit sized s ts [] s' h e = subst (λ z. Reached z (ts ++ [])) (same_reached s s' e) (subst (Reached s) (sym (append-nil ts)) h)
run_reaches limit sized s ts (x ∷ xs) s' h e =
    let w = went_further (fun_step limit sized s x) (λ z. fun_run limit sized z xs) (x ∷ xs) s' limit sized e in
    let g = fun_goes limit sized s x w.0 h.ok w.1 in
    let next : Reached w.0 (ts ++ x ∷ []) = record { ok = g.ok; tokens = subst (λ ps. ArePieces ps (ts ++ x ∷ [])) (sym g.same) (one_more_piece (fun_state_pieces s) ts g.piece x h.tokens (is_piece x g.piece g.is)) } in
    subst (Reached s') (append_assoc ts (x ∷ []) xs) (run_reaches limit sized w.0 (ts ++ x ∷ []) xs s' next w.2)

end_derives : (s : FunState) (ts : List FunSpan) (ks : List FunClause) → Reached s ts → fun_end s ≡ Ok ks → DerivesFun ts ks
end_derives (after_end js) ts ks h e = let same : js ≡ ks = cc in record { tokens = inl (subst (λ l. ArePieces (fun_pieces l) ts) same h.tokens); clauses = ap are_fun_clauses (sym same) ∙ h.ok }
end_derives (after_stop js) ts ks h e = let same : js ≡ ks = cc in record { tokens = inr (subst (λ l. ArePieces (fun_pieces l ++ anywhere token.full_stop ∷ []) ts) same h.tokens); clauses = ap are_fun_clauses (sym same) ∙ h.ok }
end_derives before_fun ts ks h e = absurd (cc)
end_derives (before_clause js) ts ks h e = absurd (cc)
end_derives (in_head js at a s) ts ks h e = absurd (cc)
end_derives (after_head c) ts ks h e = absurd (cc)
end_derives (in_guard c es s) ts ks h e = absurd (cc)
end_derives (in_fun_body c es s) ts ks h e = absurd (cc)

by_end : (limit : ℕ) (sized : Bool) (ts : List FunSpan) (ks : List FunClause) (r : Result FunState FunFault) → fun_run limit sized before_fun ts ≡ r → fun_finish r ≡ Ok ks → DerivesFun ts ks
by_end limit sized ts ks (Err f) e h = absurd (cc)
by_end limit sized ts ks (Ok s) e h = end_derives s ts ks (run_reaches limit sized before_fun [] ts s (record { ok = tt; tokens = refl }) e) h

pub read_derives : (limit : ℕ) (sized : Bool) (ts : List FunSpan) (ks : List FunClause) → read_fun limit sized ts ≡ Ok ks → DerivesFun ts ks
read_derives limit sized ts ks h = by_end limit sized ts ks (fun_run limit sized before_fun ts) refl h
