-- What is read as a head is a variable or a list of patterns.
use Rattle.std.proofs.Common.{◌≡◌, ℕ, List, [], ◌∷◌, ◌++◌, length, Bool, true, Option, Some, None, Ok, refl, sym, subst, ◌⊎◌, inl, inr}
use Rattle.std.proofs.lemmas.Bool.{and_from}
use Rattle.def_term.specs.Atoms.{ATOM_LENGTH}
use Rattle.def_text.specs.Limits.{TUPLE_LENGTH, LIST_LENGTH}
use Rattle.def_fun.specs.Operators as op
use Rattle.def_fun.specs.Operators.{FunOperator}
use Rattle.def_fun.specs.Tokens as token
use Rattle.def_fun.specs.Tokens.{FunToken, FunSpan}
use Rattle.def_fun.specs.Trees.{FunExpr, variable, whole, atom, strings, list, list_onto, tuple, before, of_exprs, joined_codes, is_pattern, are_patterns, is_variable_expr, is_list_pattern}
use Rattle.def_fun.specs.Reading.{OpenPart, in_open_parens, in_open_call, in_open_list, in_open_tail, in_open_tuple, after_left, after_prefix, ExprState, wants, has, gather, may_stand, greatest_there, has_level_left, at_most_there, one_more_of, operand_at, after_operand, string_after, close_after, comma_after, bar_after, fun_expr_step}
use Rattle.def_fun.proofs.ExprSteps.{placed_ok, same_ok}

-- each is a pattern
abbrev pub AllPatterns : List FunExpr → Type 0
AllPatterns [] = Unit {0}
AllPatterns (e ∷ es) = (is_pattern e ≡ true) × AllPatterns es

pub patterns_more : (es : List FunExpr) (e : FunExpr) → AllPatterns es → is_pattern e ≡ true → AllPatterns (es ++ e ∷ [])
patterns_more [] e a h = (h, tt)
patterns_more (d ∷ es) e a h = (a.0, patterns_more es e a.1 h)

pub patterns_of : (es : List FunExpr) → AllPatterns es → are_patterns (of_exprs es) ≡ true
patterns_of [] a = refl
patterns_of (e ∷ es) a = and_from (is_pattern e) (are_patterns (of_exprs es)) a.0 (patterns_of es a.1)

-- lists and tuples of patterns that are open
abbrev pub PatternParts : List OpenPart → Type 0
PatternParts [] = Unit {0}
PatternParts (in_open_list at es ∷ fs) = AllPatterns es × PatternParts fs
PatternParts (in_open_tail at es ∷ fs) = AllPatterns es × PatternParts fs
PatternParts (in_open_tuple at es ∷ fs) = AllPatterns es × PatternParts fs
PatternParts (in_open_parens at ∷ fs) = ⊥
PatternParts (in_open_call at s es ∷ fs) = ⊥
PatternParts (after_left at o l ∷ fs) = ⊥
PatternParts (after_prefix at o ∷ fs) = ⊥

-- an integer
abbrev IsInteger : FunExpr → Type 0
IsInteger e = (at : ℕ) × (n : ℕ) × (e ≡ whole at n)

-- where a pattern must come; after `-`, an integer
abbrev pub PatternWanted : List OpenPart → Type 0
PatternWanted (after_prefix at o ∷ fs) = (o ≡ op.minus) × PatternParts fs
PatternWanted fs = PatternParts fs

-- after a pattern, or after `-` and an integer
abbrev pub PatternThere : FunExpr → List OpenPart → Type 0
PatternThere e (after_prefix at o ∷ fs) = (o ≡ op.minus) × IsInteger e × PatternParts fs
PatternThere e fs = (is_pattern e ≡ true) × PatternParts fs

-- the outermost part is a list
abbrev pub OuterList : List OpenPart → Type 0
OuterList [] = ⊥
OuterList (in_open_list at es ∷ []) = Unit {0}
OuterList (in_open_tail at es ∷ []) = Unit {0}
OuterList (in_open_tuple at es ∷ []) = ⊥
OuterList (in_open_parens at ∷ []) = ⊥
OuterList (in_open_call at s es ∷ []) = ⊥
OuterList (after_left at o l ∷ []) = ⊥
OuterList (after_prefix at o ∷ []) = ⊥
OuterList (f ∷ g ∷ fs) = OuterList (g ∷ fs)

-- after a list and `=` comes no list
abbrev pub MayList : Option FunExpr → Type 0
MayList None = Unit {0}
MayList (Some a) = is_variable_expr a ≡ true

-- a part of a head
abbrev pub IsHeadPart : Option FunExpr → FunExpr → Type 0
IsHeadPart a e = (is_variable_expr e ≡ true) ⊎ ((is_list_pattern e ≡ true) × MayList a)

abbrev pub HeadOk : Option FunExpr → ExprState → Type 0
HeadOk a (wants []) = Unit {0}
HeadOk a (wants (f ∷ fs)) = PatternWanted (f ∷ fs) × OuterList (f ∷ fs) × MayList a
HeadOk a (has e []) = (is_pattern e ≡ true) × IsHeadPart a e
HeadOk a (has e (f ∷ fs)) = PatternThere e (f ∷ fs) × OuterList (f ∷ fs) × MayList a

-- with one more part
outer_more : (f : OpenPart) (fs : List OpenPart) → OuterList fs → OuterList (f ∷ fs)
outer_more f [] h = absurd h
outer_more f (g ∷ fs) h = h

-- no prefix waits
wanted_parts : (fs : List OpenPart) → may_stand true fs ≡ true → PatternWanted fs → PatternParts fs
wanted_parts [] h p = p
wanted_parts (in_open_list at es ∷ fs) h p = p
wanted_parts (in_open_tail at es ∷ fs) h p = p
wanted_parts (in_open_tuple at es ∷ fs) h p = p
wanted_parts (in_open_parens at ∷ fs) h p = p
wanted_parts (in_open_call at s es ∷ fs) h p = p
wanted_parts (after_left at o l ∷ fs) h p = p
wanted_parts (after_prefix at o ∷ fs) h p = absurd (cc)

there_of : (e : FunExpr) (fs : List OpenPart) → is_pattern e ≡ true → PatternParts fs → PatternThere e fs
there_of e [] h p = (h, p)
there_of e (in_open_list at es ∷ fs) h p = (h, p)
there_of e (in_open_tail at es ∷ fs) h p = (h, p)
there_of e (in_open_tuple at es ∷ fs) h p = (h, p)
there_of e (in_open_parens at ∷ fs) h p = absurd p
there_of e (in_open_call at s es ∷ fs) h p = absurd p
there_of e (after_left at o l ∷ fs) h p = absurd p
there_of e (after_prefix at o ∷ fs) h p = absurd p

whole_there : (at n : ℕ) (fs : List OpenPart) → PatternWanted fs → PatternThere (whole at n) fs
whole_there at n (after_prefix here o ∷ fs) p = (p.0, (at, n, refl), p.1)
whole_there at n [] p = (refl, p)
whole_there at n (in_open_list here es ∷ fs) p = (refl, p)
whole_there at n (in_open_tail here es ∷ fs) p = (refl, p)
whole_there at n (in_open_tuple here es ∷ fs) p = (refl, p)
whole_there at n (in_open_parens here ∷ fs) p = absurd p
whole_there at n (in_open_call here s es ∷ fs) p = absurd p
whole_there at n (after_left here o l ∷ fs) p = absurd p

-- the parts without operators
record PatternGathered (e : FunExpr) (fs : List OpenPart) (p : FunExpr × List OpenPart) : Type 0 where
  pub is : is_pattern p.0 ≡ true
  pub parts : PatternParts p.1
  pub outer : OuterList fs → OuterList p.1

minus_pattern : (at : ℕ) (o : FunOperator) (e : FunExpr) → o ≡ op.minus → IsInteger e → is_pattern (before at o e) ≡ true
minus_pattern at o e m h = subst (λ p. is_pattern (before at p e) ≡ true) (sym m) (subst (λ x. is_pattern (before at op.minus x) ≡ true) (sym h.2) refl)

gathered_prefix : (e : FunExpr) (fs : List OpenPart) → is_pattern e ≡ true → PatternParts fs → PatternGathered e fs (gather 1 e fs)
gathered_prefix e [] h p = record { is = h; parts = p; outer = λ o. o }
gathered_prefix e (in_open_list at es ∷ fs) h p = record { is = h; parts = p; outer = λ o. o }
gathered_prefix e (in_open_tail at es ∷ fs) h p = record { is = h; parts = p; outer = λ o. o }
gathered_prefix e (in_open_tuple at es ∷ fs) h p = record { is = h; parts = p; outer = λ o. o }
gathered_prefix e (in_open_parens at ∷ fs) h p = absurd p
gathered_prefix e (in_open_call at s es ∷ fs) h p = absurd p
gathered_prefix e (after_left at o l ∷ fs) h p = absurd p
gathered_prefix e (after_prefix at o ∷ fs) h p = absurd p

outer_below : (f : OpenPart) (fs : List OpenPart) (at : ℕ) (o : FunOperator) → OuterList (after_prefix at o ∷ fs) → OuterList fs
outer_below f [] at o h = absurd h
outer_below f (g ∷ fs) at o h = h

pattern_gathered : (e : FunExpr) (fs : List OpenPart) → PatternThere e fs → PatternGathered e fs (gather 1 e fs)
pattern_gathered e [] p = gathered_prefix e [] p.0 p.1
pattern_gathered e (in_open_list at es ∷ fs) p = gathered_prefix e _ p.0 p.1
pattern_gathered e (in_open_tail at es ∷ fs) p = gathered_prefix e _ p.0 p.1
pattern_gathered e (in_open_tuple at es ∷ fs) p = gathered_prefix e _ p.0 p.1
pattern_gathered e (in_open_parens at ∷ fs) p = absurd p.1
pattern_gathered e (in_open_call at s es ∷ fs) p = absurd p.1
pattern_gathered e (after_left at o l ∷ fs) p = absurd p.1
pattern_gathered e (after_prefix at o ∷ fs) p =
    let g = gathered_prefix (before at o e) fs (minus_pattern at o e p.0 p.1) p.2 in
    record { is = g.is; parts = g.parts; outer = λ h. g.outer (outer_below (after_prefix at o) fs at o h) }

-- ---- steps

-- a state that is reached
pub head_to : (a : Option FunExpr) (s s' : ExprState) → s ≡ s' → HeadOk a s → HeadOk a s'
head_to a s s' e h = subst (HeadOk a) e h

wants_more : (a : Option FunExpr) (f : OpenPart) (fs : List OpenPart) → PatternWanted (f ∷ fs) → OuterList fs → MayList a → HeadOk a (wants (f ∷ fs))
wants_more a f fs p o m = (p, outer_more f fs o, m)

has_there : (a : Option FunExpr) (e : FunExpr) (fs : List OpenPart) → PatternThere e fs → OuterList fs → MayList a → HeadOk a (has e fs)
has_there a e [] p o m = absurd o
has_there a e (f ∷ fs) p o m = (p, o, m)

-- a list that closes: the whole part, or within another
closed_list : (a : Option FunExpr) (e : FunExpr) (f : OpenPart) (fs : List OpenPart) → is_list_pattern e ≡ true → is_pattern e ≡ true → PatternParts fs → OuterList (f ∷ fs) → MayList a → HeadOk a (has e fs)
closed_list a e f [] l h p o m = (h, inr (l, m))
closed_list a e f (g ∷ fs) l h p o m = (there_of e (g ∷ fs) h p, o, m)

closed_tuple : (a : Option FunExpr) (e : FunExpr) (at : ℕ) (es : List FunExpr) (fs : List OpenPart) → is_pattern e ≡ true → PatternParts fs → OuterList (in_open_tuple at es ∷ fs) → MayList a → HeadOk a (has e fs)
closed_tuple a e at es [] h p o m = absurd o
closed_tuple a e at es (g ∷ fs) h p o m = (there_of e (g ∷ fs) h p, o, m)

strings_there : (at : ℕ) (s : List ℕ) (ss us : List (List ℕ)) (fs : List OpenPart) → PatternThere (strings at s ss) fs → PatternThere (strings at s us) fs
strings_there at s ss us [] p = p
strings_there at s ss us (in_open_list here es ∷ fs) p = p
strings_there at s ss us (in_open_tail here es ∷ fs) p = p
strings_there at s ss us (in_open_tuple here es ∷ fs) p = p
strings_there at s ss us (in_open_parens here ∷ fs) p = p
strings_there at s ss us (in_open_call here u es ∷ fs) p = p
strings_there at s ss us (after_left here o l ∷ fs) p = p
strings_there at s ss us (after_prefix here o ∷ fs) p = absurd (let e = p.1.2 in cc)

same_outer_list : (a : Option FunExpr) (at : ℕ) (es ds : List FunExpr) (fs : List OpenPart) → AllPatterns ds → PatternParts fs → OuterList (in_open_list at es ∷ fs) → MayList a → HeadOk a (wants (in_open_list at ds ∷ fs))
same_outer_list a at es ds [] d p o m = ((d, p), tt, m)
same_outer_list a at es ds (g ∷ fs) d p o m = ((d, p), o, m)

same_outer_tail : (a : Option FunExpr) (at : ℕ) (es ds : List FunExpr) (fs : List OpenPart) → AllPatterns ds → PatternParts fs → OuterList (in_open_list at es ∷ fs) → MayList a → HeadOk a (wants (in_open_tail at ds ∷ fs))
same_outer_tail a at es ds [] d p o m = ((d, p), tt, m)
same_outer_tail a at es ds (g ∷ fs) d p o m = ((d, p), o, m)

same_outer_tuple : (a : Option FunExpr) (at : ℕ) (es ds : List FunExpr) (fs : List OpenPart) → AllPatterns ds → PatternParts fs → OuterList (in_open_tuple at es ∷ fs) → MayList a → HeadOk a (wants (in_open_tuple at ds ∷ fs))
same_outer_tuple a at es ds [] d p o m = absurd o
same_outer_tuple a at es ds (g ∷ fs) d p o m = ((d, p), o, m)

module _ (limit : ℕ) (sized : Bool) where
  operand_head : (a : Option FunExpr) (fs : List OpenPart) (at : ℕ) (t : FunToken) (s' : ExprState) → PatternWanted fs → OuterList fs → MayList a → operand_at true limit sized fs at t ≡ Ok s' → HeadOk a s'
  operand_head a fs at (token.variable s) s' p o m h = let q = placed_ok (may_stand true fs) true (at_most_there true limit sized (length s) ATOM_LENGTH) (has (variable at s) fs) s' h in head_to a _ s' q.3 (has_there a (variable at s) fs (there_of (variable at s) fs refl (wanted_parts fs q.0 p)) o m)
  operand_head a fs at (token.atom s) s' p o m h = let q = placed_ok (may_stand true fs) true (at_most_there true limit sized (length s) ATOM_LENGTH) (has (atom at s) fs) s' h in head_to a _ s' q.3 (has_there a (atom at s) fs (there_of (atom at s) fs refl (wanted_parts fs q.0 p)) o m)
  operand_head a fs at (token.characters s) s' p o m h = let q = placed_ok (may_stand true fs) true (at_most_there true limit sized (length s) LIST_LENGTH) (has (strings at s []) fs) s' h in head_to a _ s' q.3 (has_there a (strings at s []) fs (there_of (strings at s []) fs refl (wanted_parts fs q.0 p)) o m)
  operand_head a fs at (token.whole n) s' p o m h = let q = placed_ok true true (at_most_there true limit sized n (greatest_there fs)) (has (whole at n) fs) s' h in head_to a _ s' q.3 (has_there a (whole at n) fs (whole_there at n fs p) o m)
  operand_head a fs at (token.operator op.minus) s' p o m h = let q = placed_ok (may_stand true fs) (has_level_left true limit sized fs) true (wants (after_prefix at op.minus ∷ fs)) s' h in head_to a _ s' q.3 (wants_more a (after_prefix at op.minus) fs (refl, wanted_parts fs q.0 p) o m)
  operand_head a fs at token.open_bracket s' p o m h = let q = placed_ok (may_stand true fs) (has_level_left true limit sized fs) true (wants (in_open_list at [] ∷ fs)) s' h in head_to a _ s' q.3 (wants_more a (in_open_list at []) fs (tt, wanted_parts fs q.0 p) o m)
  operand_head a fs at token.open_brace s' p o m h = let q = placed_ok (may_stand true fs) (has_level_left true limit sized fs) true (wants (in_open_tuple at [] ∷ fs)) s' h in head_to a _ s' q.3 (wants_more a (in_open_tuple at []) fs (tt, wanted_parts fs q.0 p) o m)
  operand_head a (in_open_list here [] ∷ fs) at token.close_bracket s' p o m h = head_to a _ s' (same_ok _ s' h) (closed_list a (list here (of_exprs [])) (in_open_list here []) fs refl refl p.1 o m)
  operand_head a (in_open_tuple here [] ∷ fs) at token.close_brace s' p o m h = head_to a _ s' (same_ok _ s' h) (closed_tuple a (tuple here (of_exprs [])) here [] fs refl p.1 o m)
  operand_head a (in_open_call here s [] ∷ fs) at token.close_paren s' p o m h = absurd p
  operand_head a fs at t s' p o m h = absurd (cc)

  string_head : (a : Option FunExpr) (u : List ℕ) (e : FunExpr) (fs : List OpenPart) (s' : ExprState) → PatternThere e fs → OuterList fs → MayList a → string_after true limit sized u e fs ≡ Ok s' → HeadOk a s'
  string_head a u (strings here s ss) fs s' p o m h =
      let q = placed_ok true true (at_most_there true limit sized (length (joined_codes s (ss ++ u ∷ []))) LIST_LENGTH) (has (strings here s (ss ++ u ∷ [])) fs) s' h in
      head_to a _ s' q.3 (has_there a (strings here s (ss ++ u ∷ [])) fs (strings_there here s ss (ss ++ u ∷ []) fs p) o m)
  string_head a u e fs s' p o m h = absurd (cc)

  close_head : (a : Option FunExpr) (t : FunToken) (e : FunExpr) (fs : List OpenPart) (s' : ExprState) → is_pattern e ≡ true → PatternParts fs → OuterList fs → MayList a → close_after true limit sized t e fs ≡ Ok s' → HeadOk a s'
  close_head a token.close_bracket e (in_open_list here es ∷ fs) s' i p o m h = let ps = patterns_of (es ++ e ∷ []) (patterns_more es e p.0 i) in head_to a _ s' (same_ok _ s' h) (closed_list a (list here (of_exprs (es ++ e ∷ []))) (in_open_list here es) fs ps ps p.1 o m)
  close_head a token.close_bracket e (in_open_tail here es ∷ fs) s' i p o m h = let ps = and_from (are_patterns (of_exprs es)) (is_pattern e) (patterns_of es p.0) i in head_to a _ s' (same_ok _ s' h) (closed_list a (list_onto here (of_exprs es) e) (in_open_tail here es) fs ps ps p.1 o m)
  close_head a token.close_brace e (in_open_tuple here es ∷ fs) s' i p o m h = head_to a _ s' (same_ok _ s' h) (closed_tuple a (tuple here (of_exprs (es ++ e ∷ []))) here es fs (patterns_of (es ++ e ∷ []) (patterns_more es e p.0 i)) p.1 o m)
  close_head a token.close_paren e (in_open_parens here ∷ fs) s' i p o m h = absurd p
  close_head a token.close_paren e (in_open_call here s es ∷ fs) s' i p o m h = absurd p
  close_head a t e fs s' i p o m h = absurd (cc)

  comma_head : (a : Option FunExpr) (e : FunExpr) (fs : List OpenPart) (s' : ExprState) → is_pattern e ≡ true → PatternParts fs → OuterList fs → MayList a → comma_after true limit sized e fs ≡ Ok s' → HeadOk a s'
  comma_head a e (in_open_call here s es ∷ fs) s' i p o m h = absurd p
  comma_head a e (in_open_list here es ∷ fs) s' i p o m h =
      let q = placed_ok true true (one_more_of true limit sized (length (es ++ e ∷ [])) LIST_LENGTH) (wants (in_open_list here (es ++ e ∷ []) ∷ fs)) s' h in
      head_to a _ s' q.3 (same_outer_list a here es (es ++ e ∷ []) fs (patterns_more es e p.0 i) p.1 o m)
  comma_head a e (in_open_tuple here es ∷ fs) s' i p o m h =
      let q = placed_ok true true (one_more_of true limit sized (length (es ++ e ∷ [])) TUPLE_LENGTH) (wants (in_open_tuple here (es ++ e ∷ []) ∷ fs)) s' h in
      head_to a _ s' q.3 (same_outer_tuple a here es (es ++ e ∷ []) fs (patterns_more es e p.0 i) p.1 o m)
  comma_head a e fs s' i p o m h = absurd (cc)

  bar_head : (a : Option FunExpr) (e : FunExpr) (fs : List OpenPart) (s' : ExprState) → is_pattern e ≡ true → PatternParts fs → OuterList fs → MayList a → bar_after true limit sized e fs ≡ Ok s' → HeadOk a s'
  bar_head a e (in_open_list here es ∷ fs) s' i p o m h = head_to a _ s' (same_ok _ s' h) (same_outer_tail a here es (es ++ e ∷ []) fs (patterns_more es e p.0 i) p.1 o m)
  bar_head a e fs s' i p o m h = absurd (cc)

  after_head_there : (a : Option FunExpr) (e : FunExpr) (fs : List OpenPart) (at : ℕ) (t : FunToken) (s' : ExprState) → PatternThere e fs → OuterList fs → MayList a → after_operand true limit sized e fs at t ≡ Ok s' → HeadOk a s'
  after_head_there a e fs at (token.operator p) s' g o m h = absurd (cc)
  after_head_there a e fs at (token.characters u) s' g o m h = string_head a u e fs s' g o m h
  after_head_there a (atom here s) fs at token.open_paren s' g o m h = absurd (cc)
  after_head_there a e fs at token.close_paren s' g o m h = let q = pattern_gathered e fs g in close_head a token.close_paren _ _ s' q.is q.parts (q.outer o) m h
  after_head_there a e fs at token.close_bracket s' g o m h = let q = pattern_gathered e fs g in close_head a token.close_bracket _ _ s' q.is q.parts (q.outer o) m h
  after_head_there a e fs at token.close_brace s' g o m h = let q = pattern_gathered e fs g in close_head a token.close_brace _ _ s' q.is q.parts (q.outer o) m h
  after_head_there a e fs at token.comma s' g o m h = let q = pattern_gathered e fs g in comma_head a _ _ s' q.is q.parts (q.outer o) m h
  after_head_there a e fs at token.bar s' g o m h = let q = pattern_gathered e fs g in bar_head a _ _ s' q.is q.parts (q.outer o) m h
  after_head_there a e fs at t s' g o m h = absurd (cc)

  -- after a whole part nothing of the part comes
  part_ends : (a : Option FunExpr) (e : FunExpr) (at : ℕ) (t : FunToken) (s' : ExprState) → IsHeadPart a e → after_operand true limit sized e [] at t ≡ Ok s' → HeadOk a s'
  part_ends a e at (token.operator o) s' v h = absurd (cc)
  part_ends a (strings here s ss) at (token.characters u) s' (inl v) h = absurd (cc)
  part_ends a (strings here s ss) at (token.characters u) s' (inr v) h = absurd (let e = v.0 in cc)
  part_ends a e at (token.characters u) s' v h = absurd (cc)
  part_ends a (atom here s) at token.open_paren s' v h = absurd (cc)
  part_ends a e at token.open_paren s' v h = absurd (cc)
  part_ends a e at t s' v h = absurd (cc)

  pub head_goes_on : (a : Option FunExpr) (s : ExprState) (x : FunSpan) (s' : ExprState) → HeadOk a s → (s ≡ wants [] → ⊥) → fun_expr_step true limit sized s x ≡ Ok s' → HeadOk a s'
  head_goes_on a (wants []) x s' ok started h = absurd (started refl)
  head_goes_on a (wants (f ∷ fs)) x s' ok started h = operand_head a (f ∷ fs) x.from x.token s' ok.0 ok.1 ok.2 h
  head_goes_on a (has e []) x s' ok started h = part_ends a e x.from x.token s' ok.1 h
  head_goes_on a (has e (f ∷ fs)) x s' ok started h = after_head_there a e (f ∷ fs) x.from x.token s' ok.0 ok.1 ok.2 h
