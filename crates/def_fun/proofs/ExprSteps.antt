-- A token within an expression: what it leads to has the tokens so far and that one.
use Rattle.std.proofs.Common.{◌≡◌, ℕ, ◌+◌, List, [], ◌∷◌, ◌++◌, map, length, Bool, true, false, not, ◌&&◌, nat_lt, Result, Ok, refl, ap, sym, ◌∙◌, subst, arith, append_assoc, ◌⊎◌, inl, inr}
use Rattle.std.proofs.lemmas.Bool.{and_parts, and_from, leb-true}
use Rattle.std.proofs.lemmas.List.{map-append}
use Rattle.def_term.specs.Names.{Name}
use Rattle.def_term.specs.Atoms.{ATOM_LENGTH}
use Rattle.def_text.specs.Limits.{TUPLE_LENGTH, LIST_LENGTH}
use Rattle.def_text.specs.Faults.{FaultKind}
use Rattle.def_fun.specs.Operators as op
use Rattle.def_fun.specs.Operators.{FunOperator, operator_binding, level_of, left_level, right_level, PREFIX_LEVEL, is_infix, is_prefix}
use Rattle.def_fun.specs.Tokens as token
use Rattle.def_fun.specs.Tokens.{FunToken, FunSpan}
use Rattle.def_fun.specs.Trees.{FunExpr, variable, whole, atom, strings, call, list, tuple, of_exprs, nesting_depth, joined_codes}
use Rattle.def_fun.specs.Grammar.{Piece, at_offset, anywhere, string_piece, expr_pieces, pieces_of, has_one, has_level, have_levels}
use Rattle.def_fun.specs.Reading.{OpenPart, in_open_parens, in_open_call, in_open_list, in_open_tail, in_open_tuple, after_left, after_prefix, ExprState, wants, has, gather, may_follow, may_stand, greatest_there, has_level_left, at_most_there, one_more_of, if_placed, operand_at, after_operand, operator_after, string_after, arguments_after, close_after, comma_after, bar_after, fun_expr_step}
use Rattle.def_fun.proofs.OpenParts.{each_comma, open_pieces, parts_pieces, state_pieces, elements_pieces, comma_more, Admits, PartsOk, TIGHT, StateOk, all_levels, all_of_levels, more_levels, one_at_least, lower_level, level_bounds, NoPrefix, IsGathered, gather_ok}

-- the piece of a token at that offset
abbrev pub IsPieceOf : ℕ → FunToken → Piece → Type 0
IsPieceOf at t q = (q ≡ at_offset at t) ⊎ (q ≡ anywhere t)

pub record Goes (ps : List Piece) (at : ℕ) (t : FunToken) (s : ExprState) : Type 0 where
  pub ok : StateOk s
  pub piece : Piece
  pub is : IsPieceOf at t piece
  pub same : state_pieces s ≡ ps ++ piece ∷ []

pub placed_ok : (a b c : Bool) (s s' : ExprState) → if_placed a b c s ≡ Ok s' → (a ≡ true) × (b ≡ true) × (c ≡ true) × (s ≡ s')
placed_ok true true true s s' h = (refl, refl, refl, let e : s ≡ s' = cc in e)
placed_ok true true false s s' h = absurd (cc)
placed_ok true false c s s' h = absurd (cc)
placed_ok false b c s s' h = absurd (cc)

goes_to : (ps : List Piece) (at : ℕ) (t : FunToken) (s s' : ExprState) → s ≡ s' → Goes ps at t s → Goes ps at t s'
goes_to ps at t s s' e g = subst (Goes ps at t) e g

pub same_ok : (s s' : ExprState) → ◌≡◌ {A = Result ExprState FaultKind} (Ok s) (Ok s') → s ≡ s'
same_ok s s' h = cc

-- a leaf
leaf_goes : (e : FunExpr) (fs : List OpenPart) (at : ℕ) (t : FunToken) → PartsOk fs → has_level TIGHT e ≡ true → expr_pieces e ≡ at_offset at t ∷ [] → Goes (parts_pieces fs) at t (has e fs)
leaf_goes e fs at t ok l h = record { ok = (l, ok); piece = at_offset at t; is = inl refl; same = ap (λ x. parts_pieces fs ++ x) h }

-- a part that opens
opens_goes : (f : OpenPart) (fs : List OpenPart) (at : ℕ) (t : FunToken) → PartsOk (f ∷ fs) → open_pieces f ≡ at_offset at t ∷ [] → Goes (parts_pieces fs) at t (wants (f ∷ fs))
opens_goes f fs at t ok h = record { ok = ok; piece = at_offset at t; is = inl refl; same = ap (λ x. parts_pieces fs ++ x) h }

-- a prefix binds at least as strongly as what waits, but for another prefix it is the same
admits_prefix : (fs : List OpenPart) → Admits PREFIX_LEVEL fs
admits_prefix [] = omega arith
admits_prefix (in_open_parens at ∷ fs) = omega arith
admits_prefix (in_open_call at s es ∷ fs) = omega arith
admits_prefix (in_open_list at es ∷ fs) = omega arith
admits_prefix (in_open_tail at es ∷ fs) = omega arith
admits_prefix (in_open_tuple at es ∷ fs) = omega arith
admits_prefix (after_left at o l ∷ fs) = (level_bounds o).right
admits_prefix (after_prefix at o ∷ fs) = omega arith

pub admits_tight : (fs : List OpenPart) → Admits TIGHT fs
admits_tight [] = omega arith
admits_tight (in_open_parens at ∷ fs) = omega arith
admits_tight (in_open_call at s es ∷ fs) = omega arith
admits_tight (in_open_list at es ∷ fs) = omega arith
admits_tight (in_open_tail at es ∷ fs) = omega arith
admits_tight (in_open_tuple at es ∷ fs) = omega arith
admits_tight (after_left at o l ∷ fs) = let r = (level_bounds o).right in omega (arith, r)
admits_tight (after_prefix at o ∷ fs) = omega arith

-- brackets that close at once
closes_list : (here : ℕ) (fs : List OpenPart) (at : ℕ) → PartsOk (in_open_list here [] ∷ fs) → Goes (parts_pieces (in_open_list here [] ∷ fs)) at token.close_bracket (has (list here (of_exprs [])) fs)
closes_list here fs at ok = record { ok = (refl, ok.1); piece = anywhere token.close_bracket; is = inr refl; same = sym (append_assoc (parts_pieces fs) (at_offset here token.open_bracket ∷ []) (anywhere token.close_bracket ∷ [])) }

closes_tuple : (here : ℕ) (fs : List OpenPart) (at : ℕ) → PartsOk (in_open_tuple here [] ∷ fs) → Goes (parts_pieces (in_open_tuple here [] ∷ fs)) at token.close_brace (has (tuple here (of_exprs [])) fs)
closes_tuple here fs at ok = record { ok = (refl, ok.1); piece = anywhere token.close_brace; is = inr refl; same = sym (append_assoc (parts_pieces fs) (at_offset here token.open_brace ∷ []) (anywhere token.close_brace ∷ [])) }

closes_call : (here : ℕ) (s : Name) (fs : List OpenPart) (at : ℕ) → PartsOk (in_open_call here s [] ∷ fs) → Goes (parts_pieces (in_open_call here s [] ∷ fs)) at token.close_paren (has (call here s (of_exprs [])) fs)
closes_call here s fs at ok = record { ok = (refl, ok.1); piece = anywhere token.close_paren; is = inr refl; same = sym (append_assoc (parts_pieces fs) (at_offset here (token.atom s) ∷ anywhere token.open_paren ∷ []) (anywhere token.close_paren ∷ [])) }

tail_pieces : (ps : List Piece) (o : Piece) (es : List Piece) (b : Piece) (xs : List Piece) (c : Piece) → ps ++ o ∷ (es ++ b ∷ (xs ++ c ∷ [])) ≡ ((ps ++ o ∷ (es ++ b ∷ [])) ++ xs) ++ c ∷ []
tail_pieces ps o es b xs c = simp append_assoc

regroup_comma : (ps os es xs : List Piece) → ps ++ (os ++ (es ++ (xs ++ anywhere token.comma ∷ []))) ≡ ((ps ++ (os ++ es)) ++ xs) ++ anywhere token.comma ∷ []
regroup_comma ps os es xs = simp append_assoc

module _ (pattern : Bool) (limit : ℕ) (sized : Bool) where
  -- a prefix
  prefix_goes : (o : FunOperator) (fs : List OpenPart) (at : ℕ) (s' : ExprState) (a b c : Bool) → PartsOk fs → (a ≡ true → is_prefix o ≡ true) → if_placed a b c (wants (after_prefix at o ∷ fs)) ≡ Ok s' → Goes (parts_pieces fs) at (token.operator o) s'
  prefix_goes o fs at s' a b c ok is h =
      let p = placed_ok a b c (wants (after_prefix at o ∷ fs)) s' h in
      goes_to _ at (token.operator o) _ s' p.3 (opens_goes (after_prefix at o) fs at (token.operator o) (is p.0, admits_prefix fs, ok) refl)

  placed_leaf : (e : FunExpr) (fs : List OpenPart) (at : ℕ) (t : FunToken) (s' : ExprState) (a b c : Bool) → PartsOk fs → has_level TIGHT e ≡ true → expr_pieces e ≡ at_offset at t ∷ [] → if_placed a b c (has e fs) ≡ Ok s' → Goes (parts_pieces fs) at t s'
  placed_leaf e fs at t s' a b c ok l h g = let p = placed_ok a b c (has e fs) s' g in goes_to _ at t _ s' p.3 (leaf_goes e fs at t ok l h)

  placed_open : (f : OpenPart) (fs : List OpenPart) (at : ℕ) (t : FunToken) (s' : ExprState) (a b c : Bool) → PartsOk (f ∷ fs) → open_pieces f ≡ at_offset at t ∷ [] → if_placed a b c (wants (f ∷ fs)) ≡ Ok s' → Goes (parts_pieces fs) at t s'
  placed_open f fs at t s' a b c ok h g = let p = placed_ok a b c (wants (f ∷ fs)) s' g in goes_to _ at t _ s' p.3 (opens_goes f fs at t ok h)

  prefix_of : (o : FunOperator) → (is_prefix o && not pattern) ≡ true → is_prefix o ≡ true
  prefix_of o h = (and_parts (is_prefix o) (not pattern) h).0

  pub operand_goes : (fs : List OpenPart) (at : ℕ) (t : FunToken) (s' : ExprState) → PartsOk fs → operand_at pattern limit sized fs at t ≡ Ok s' → Goes (parts_pieces fs) at t s'
  operand_goes fs at (token.variable s) s' ok h = placed_leaf (variable at s) fs at _ s' (may_stand pattern fs) true (at_most_there pattern limit sized (length s) ATOM_LENGTH) ok refl refl h
  operand_goes fs at (token.atom s) s' ok h = placed_leaf (atom at s) fs at _ s' (may_stand pattern fs) true (at_most_there pattern limit sized (length s) ATOM_LENGTH) ok refl refl h
  operand_goes fs at (token.characters s) s' ok h = placed_leaf (strings at s []) fs at _ s' (may_stand pattern fs) true (at_most_there pattern limit sized (length s) LIST_LENGTH) ok refl refl h
  operand_goes fs at (token.whole n) s' ok h = placed_leaf (whole at n) fs at _ s' true true (at_most_there pattern limit sized n (greatest_there fs)) ok refl refl h
  operand_goes fs at (token.operator op.minus) s' ok h = prefix_goes op.minus fs at s' (may_stand pattern fs) (has_level_left pattern limit sized fs) true ok (λ _. refl) h
  operand_goes fs at (token.operator o) s' ok h = prefix_goes o fs at s' (is_prefix o && not pattern) (has_level_left pattern limit sized fs) true ok (prefix_of o) h
  operand_goes fs at token.open_paren s' ok h = placed_open (in_open_parens at) fs at _ s' (not pattern) (has_level_left pattern limit sized fs) true ok refl h
  operand_goes fs at token.open_bracket s' ok h = placed_open (in_open_list at []) fs at _ s' (may_stand pattern fs) (has_level_left pattern limit sized fs) true (tt, ok) refl h
  operand_goes fs at token.open_brace s' ok h = placed_open (in_open_tuple at []) fs at _ s' (may_stand pattern fs) (has_level_left pattern limit sized fs) true (tt, ok) refl h
  operand_goes (in_open_list here [] ∷ fs) at token.close_bracket s' ok h = goes_to _ at _ _ s' (same_ok _ s' h) (closes_list here fs at ok)
  operand_goes (in_open_tuple here [] ∷ fs) at token.close_brace s' ok h = goes_to _ at _ _ s' (same_ok _ s' h) (closes_tuple here fs at ok)
  operand_goes (in_open_call here s [] ∷ fs) at token.close_paren s' ok h = goes_to _ at _ _ s' (same_ok _ s' h) (closes_call here s fs at ok)
  operand_goes fs at t s' ok h = absurd (cc)

  -- ---- after an operand

  admits_follow : (o : FunOperator) (fs : List OpenPart) → NoPrefix fs → may_follow o fs ≡ true → Admits (level_of (operator_binding o)) fs
  admits_follow o [] b h = (level_bounds o).level
  admits_follow o (in_open_parens at ∷ fs) b h = (level_bounds o).level
  admits_follow o (in_open_call at s es ∷ fs) b h = (level_bounds o).level
  admits_follow o (in_open_list at es ∷ fs) b h = (level_bounds o).level
  admits_follow o (in_open_tail at es ∷ fs) b h = (level_bounds o).level
  admits_follow o (in_open_tuple at es ∷ fs) b h = (level_bounds o).level
  admits_follow o (after_left at p l ∷ fs) b h = leb-true (right_level (operator_binding p)) (level_of (operator_binding o)) h
  admits_follow o (after_prefix at p ∷ fs) b h = absurd b

  operator_goes : (at : ℕ) (o : FunOperator) (e : FunExpr) (fs : List OpenPart) (p : FunExpr × List OpenPart) (s' : ExprState) → IsGathered (left_level (operator_binding o)) e fs p → operator_after pattern limit sized at o p.0 p.1 ≡ Ok s' → Goes (state_pieces (has e fs)) at (token.operator o) s'
  operator_goes at o e fs p s' g h =
      let q = placed_ok (not pattern && (is_infix o && may_follow o p.1)) (nat_lt (length p.1 + nesting_depth p.0) limit) true (wants (after_left at o p.0 ∷ p.1)) s' h in
      let a = and_parts (not pattern) (is_infix o && may_follow o p.1) q.0 in
      let b = and_parts (is_infix o) (may_follow o p.1) a.1 in
      let k = left_level (operator_binding o) in
      let ok : PartsOk (after_left at o p.0 ∷ p.1) = (b.0, lower_level k g.level p.0 g.least g.good, admits_follow o p.1 g.bare b.1, g.ok) in
      goes_to _ at _ _ s' q.3 (record { ok = ok; piece = at_offset at (token.operator o); is = inl refl; same = sym (append_assoc (parts_pieces p.1) (expr_pieces p.0) (at_offset at (token.operator o) ∷ [])) ∙ ap (λ x. x ++ at_offset at (token.operator o) ∷ []) g.same })

  -- a string after others
  string_goes : (u : List ℕ) (e : FunExpr) (fs : List OpenPart) (at : ℕ) (s' : ExprState) → PartsOk fs → string_after pattern limit sized u e fs ≡ Ok s' → Goes (state_pieces (has e fs)) at (token.characters u) s'
  string_goes u (strings here s ss) fs at s' ok h =
      let q = placed_ok true true (at_most_there pattern limit sized (length (joined_codes s (ss ++ u ∷ []))) LIST_LENGTH) (has (strings here s (ss ++ u ∷ [])) fs) s' h in
      let first = at_offset here (token.characters s) in
      goes_to _ at _ _ s' q.3 (record { ok = (refl, ok); piece = anywhere (token.characters u); is = inr refl; same = ap (λ x. parts_pieces fs ++ first ∷ x) (map-append string_piece ss (u ∷ [])) ∙ sym (append_assoc (parts_pieces fs) (first ∷ map string_piece ss) (anywhere (token.characters u) ∷ [])) })
  string_goes u e fs at s' ok h = absurd (cc)

  arguments_goes : (e : FunExpr) (fs : List OpenPart) (at : ℕ) (s' : ExprState) → PartsOk fs → arguments_after pattern limit sized e fs ≡ Ok s' → Goes (state_pieces (has e fs)) at token.open_paren s'
  arguments_goes (atom here s) fs at s' ok h =
      let q = placed_ok (not pattern) (has_level_left pattern limit sized fs) true (wants (in_open_call here s [] ∷ fs)) s' h in
      goes_to _ at _ _ s' q.3 (record { ok = (tt, ok); piece = anywhere token.open_paren; is = inr refl; same = sym (append_assoc (parts_pieces fs) (at_offset here (token.atom s) ∷ []) (anywhere token.open_paren ∷ [])) })
  arguments_goes e fs at s' ok h = absurd (cc)

  -- with the tokens of an element before it
  closed_pieces : (ps os es xs : List Piece) (c : Piece) → ps ++ (os ++ ((es ++ xs) ++ c ∷ [])) ≡ ((ps ++ (os ++ es)) ++ xs) ++ c ∷ []
  closed_pieces ps os es xs c = simp append_assoc

  close_goes : (t : FunToken) (e : FunExpr) (fs : List OpenPart) (at : ℕ) (s' : ExprState) → PartsOk fs → has_level 1 e ≡ true → close_after pattern limit sized t e fs ≡ Ok s' → Goes (state_pieces (has e fs)) at t s'
  close_goes token.close_paren e (in_open_parens here ∷ fs) at s' ok l h =
      goes_to _ at _ _ s' (same_ok _ s' h) (record { ok = (l, ok); piece = anywhere token.close_paren; is = inr refl; same = closed_pieces (parts_pieces fs) (at_offset here token.open_paren ∷ []) [] (expr_pieces e) (anywhere token.close_paren) })
  close_goes token.close_paren e (in_open_call here s es ∷ fs) at s' ok l h =
      let os = at_offset here (token.atom s) ∷ anywhere token.open_paren ∷ [] in
      let c = anywhere token.close_paren in
      goes_to _ at _ _ s' (same_ok _ s' h) (record { ok = (all_levels es e ok.0 l, ok.1); piece = c; is = inr refl; same = ap (λ x. parts_pieces fs ++ (os ++ (x ++ c ∷ []))) (elements_pieces es e) ∙ closed_pieces (parts_pieces fs) os (each_comma es) (expr_pieces e) c })
  close_goes token.close_bracket e (in_open_list here es ∷ fs) at s' ok l h =
      let os = at_offset here token.open_bracket ∷ [] in
      let c = anywhere token.close_bracket in
      goes_to _ at _ _ s' (same_ok _ s' h) (record { ok = (all_levels es e ok.0 l, ok.1); piece = c; is = inr refl; same = ap (λ x. parts_pieces fs ++ (os ++ (x ++ c ∷ []))) (elements_pieces es e) ∙ closed_pieces (parts_pieces fs) os (each_comma es) (expr_pieces e) c })
  close_goes token.close_bracket e (in_open_tail here es ∷ fs) at s' ok l h =
      goes_to _ at _ _ s' (same_ok _ s' h) (record {
        ok = (and_from (has_one (of_exprs es)) (have_levels (of_exprs es) && has_level 1 e) ok.0 (and_from (have_levels (of_exprs es)) (has_level 1 e) (all_of_levels es ok.1) l), ok.2);
        piece = anywhere token.close_bracket;
        is = inr refl;
        same = tail_pieces (parts_pieces fs) (at_offset here token.open_bracket) (pieces_of (of_exprs es)) (anywhere token.bar) (expr_pieces e) (anywhere token.close_bracket);
      })
  close_goes token.close_brace e (in_open_tuple here es ∷ fs) at s' ok l h =
      let os = at_offset here token.open_brace ∷ [] in
      let c = anywhere token.close_brace in
      goes_to _ at _ _ s' (same_ok _ s' h) (record { ok = (all_levels es e ok.0 l, ok.1); piece = c; is = inr refl; same = ap (λ x. parts_pieces fs ++ (os ++ (x ++ c ∷ []))) (elements_pieces es e) ∙ closed_pieces (parts_pieces fs) os (each_comma es) (expr_pieces e) c })
  close_goes t e fs at s' ok l h = absurd (cc)

  -- a comma
  comma_pieces_more : (ps os : List Piece) (es : List FunExpr) (e : FunExpr) → ps ++ (os ++ each_comma (es ++ e ∷ [])) ≡ ((ps ++ (os ++ each_comma es)) ++ expr_pieces e) ++ anywhere token.comma ∷ []
  comma_pieces_more ps os es e = ap (λ x. ps ++ (os ++ x)) (comma_more es e) ∙ regroup_comma ps os (each_comma es) (expr_pieces e)

  comma_goes : (e : FunExpr) (fs : List OpenPart) (at : ℕ) (s' : ExprState) → PartsOk fs → has_level 1 e ≡ true → comma_after pattern limit sized e fs ≡ Ok s' → Goes (state_pieces (has e fs)) at token.comma s'
  comma_goes e (in_open_call here s es ∷ fs) at s' ok l h =
      goes_to _ at _ _ s' (same_ok _ s' h) (record { ok = (more_levels es e ok.0 l, ok.1); piece = anywhere token.comma; is = inr refl; same = comma_pieces_more (parts_pieces fs) (at_offset here (token.atom s) ∷ anywhere token.open_paren ∷ []) es e })
  comma_goes e (in_open_list here es ∷ fs) at s' ok l h =
      let q = placed_ok true true (one_more_of pattern limit sized (length (es ++ e ∷ [])) LIST_LENGTH) (wants (in_open_list here (es ++ e ∷ []) ∷ fs)) s' h in
      goes_to _ at _ _ s' q.3 (record { ok = (more_levels es e ok.0 l, ok.1); piece = anywhere token.comma; is = inr refl; same = comma_pieces_more (parts_pieces fs) (at_offset here token.open_bracket ∷ []) es e })
  comma_goes e (in_open_tuple here es ∷ fs) at s' ok l h =
      let q = placed_ok true true (one_more_of pattern limit sized (length (es ++ e ∷ [])) TUPLE_LENGTH) (wants (in_open_tuple here (es ++ e ∷ []) ∷ fs)) s' h in
      goes_to _ at _ _ s' q.3 (record { ok = (more_levels es e ok.0 l, ok.1); piece = anywhere token.comma; is = inr refl; same = comma_pieces_more (parts_pieces fs) (at_offset here token.open_brace ∷ []) es e })
  comma_goes e fs at s' ok l h = absurd (cc)

  bar_goes : (e : FunExpr) (fs : List OpenPart) (at : ℕ) (s' : ExprState) → PartsOk fs → has_level 1 e ≡ true → bar_after pattern limit sized e fs ≡ Ok s' → Goes (state_pieces (has e fs)) at token.bar s'
  bar_goes e (in_open_list here es ∷ fs) at s' ok l h =
      let os = at_offset here token.open_bracket ∷ [] in
      let c = anywhere token.bar in
      goes_to _ at _ _ s' (same_ok _ s' h) (record { ok = (one_at_least es e, more_levels es e ok.0 l, ok.1); piece = c; is = inr refl; same = ap (λ x. parts_pieces fs ++ (os ++ (x ++ c ∷ []))) (elements_pieces es e) ∙ closed_pieces (parts_pieces fs) os (each_comma es) (expr_pieces e) c })
  bar_goes e fs at s' ok l h = absurd (cc)

  -- with what the operators make of it
  whole_level : (e : FunExpr) (fs : List OpenPart) (p : FunExpr × List OpenPart) → IsGathered 1 e fs p → has_level 1 p.0 ≡ true
  whole_level e fs p g = lower_level 1 g.level p.0 g.least g.good

  from_whole : (e : FunExpr) (fs : List OpenPart) (p : FunExpr × List OpenPart) (at : ℕ) (t : FunToken) (s' : ExprState) → IsGathered 1 e fs p → Goes (state_pieces (has p.0 p.1)) at t s' → Goes (state_pieces (has e fs)) at t s'
  from_whole e fs p at t s' g go = record { ok = go.ok; piece = go.piece; is = go.is; same = go.same ∙ ap (λ x. x ++ go.piece ∷ []) g.same }

  pub after_goes : (e : FunExpr) (fs : List OpenPart) (at : ℕ) (t : FunToken) (s' : ExprState) → has_level TIGHT e ≡ true → PartsOk fs → after_operand pattern limit sized e fs at t ≡ Ok s' → Goes (state_pieces (has e fs)) at t s'
  after_goes e fs at (token.operator o) s' l ok h =
      let k = left_level (operator_binding o) in
      let b = (level_bounds o).left in
      operator_goes at o e fs (gather k e fs) s' (gather_ok k TIGHT e fs (omega (arith, b)) b l (admits_tight fs) ok) h
  after_goes e fs at (token.characters u) s' l ok h = string_goes u e fs at s' ok h
  after_goes e fs at token.open_paren s' l ok h = arguments_goes e fs at s' ok h
  after_goes e fs at token.close_paren s' l ok h = let g = gather_ok 1 TIGHT e fs (omega arith) (omega arith) l (admits_tight fs) ok in from_whole e fs _ at _ s' g (close_goes token.close_paren _ _ at s' g.ok (whole_level e fs _ g) h)
  after_goes e fs at token.close_bracket s' l ok h = let g = gather_ok 1 TIGHT e fs (omega arith) (omega arith) l (admits_tight fs) ok in from_whole e fs _ at _ s' g (close_goes token.close_bracket _ _ at s' g.ok (whole_level e fs _ g) h)
  after_goes e fs at token.close_brace s' l ok h = let g = gather_ok 1 TIGHT e fs (omega arith) (omega arith) l (admits_tight fs) ok in from_whole e fs _ at _ s' g (close_goes token.close_brace _ _ at s' g.ok (whole_level e fs _ g) h)
  after_goes e fs at token.comma s' l ok h = let g = gather_ok 1 TIGHT e fs (omega arith) (omega arith) l (admits_tight fs) ok in from_whole e fs _ at _ s' g (comma_goes _ _ at s' g.ok (whole_level e fs _ g) h)
  after_goes e fs at token.bar s' l ok h = let g = gather_ok 1 TIGHT e fs (omega arith) (omega arith) l (admits_tight fs) ok in from_whole e fs _ at _ s' g (bar_goes _ _ at s' g.ok (whole_level e fs _ g) h)
  after_goes e fs at t s' l ok h = absurd (cc)

  pub step_goes : (s : ExprState) (x : FunSpan) (s' : ExprState) → StateOk s → fun_expr_step pattern limit sized s x ≡ Ok s' → Goes (state_pieces s) x.from x.token s'
  step_goes (wants fs) x s' ok h = operand_goes fs x.from x.token s' ok h
  step_goes (has e fs) x s' ok h = after_goes e fs x.from x.token s' ok.0 ok.1 h
