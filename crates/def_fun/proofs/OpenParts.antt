-- The parts that are open: their tokens, and that operators are as their levels say.
use Rattle.std.proofs.Common.{◌≡◌, ℕ, ◌≤◌, List, [], ◌∷◌, ◌++◌, true, nat_le, refl, ap, sym, ◌∙◌, arith, append_assoc, append-nil}
use Rattle.std.proofs.lemmas.Bool.{and_parts, and_from, leb-true, le-leb, cond_both}
use Rattle.def_fun.specs.Operators as op
use Rattle.def_fun.specs.Operators.{FunOperator, operator_binding, level_of, left_level, right_level, PREFIX_LEVEL, is_infix, is_prefix}
use Rattle.def_fun.specs.Tokens as token
use Rattle.def_fun.specs.Tokens.{FunToken, FunSpan}
use Rattle.def_fun.specs.Trees.{FunExpr, variable, whole, atom, strings, in_parens, call, list, list_onto, tuple, before, between, of_exprs}
use Rattle.def_fun.specs.Grammar.{Piece, at_offset, anywhere, expr_pieces, pieces_of, has_one, has_level, have_levels}
use Rattle.def_fun.specs.Reading.{OpenPart, in_open_parens, in_open_call, in_open_list, in_open_tail, in_open_tuple, after_left, after_prefix, ExprState, wants, has, gather}

-- ---- tokens

-- with a comma after each
abbrev pub each_comma : List FunExpr → List Piece
each_comma [] = []
each_comma (e ∷ es) = expr_pieces e ++ anywhere token.comma ∷ each_comma es

abbrev pub open_pieces : OpenPart → List Piece
open_pieces (in_open_parens at) = at_offset at token.open_paren ∷ []
open_pieces (in_open_call at s es) = at_offset at (token.atom s) ∷ anywhere token.open_paren ∷ each_comma es
open_pieces (in_open_list at es) = at_offset at token.open_bracket ∷ each_comma es
open_pieces (in_open_tail at es) = at_offset at token.open_bracket ∷ (pieces_of (of_exprs es) ++ anywhere token.bar ∷ [])
open_pieces (in_open_tuple at es) = at_offset at token.open_brace ∷ each_comma es
open_pieces (after_left at o l) = expr_pieces l ++ at_offset at (token.operator o) ∷ []
open_pieces (after_prefix at o) = at_offset at (token.operator o) ∷ []

abbrev pub parts_pieces : List OpenPart → List Piece
parts_pieces [] = []
parts_pieces (f ∷ fs) = parts_pieces fs ++ open_pieces f

-- the tokens up to here
abbrev pub state_pieces : ExprState → List Piece
state_pieces (wants fs) = parts_pieces fs
state_pieces (has e fs) = parts_pieces fs ++ expr_pieces e

pub elements_pieces : (es : List FunExpr) (e : FunExpr) → pieces_of (of_exprs (es ++ e ∷ [])) ≡ each_comma es ++ expr_pieces e
elements_pieces [] e = append-nil (expr_pieces e)
elements_pieces (d ∷ []) e = ap (λ x. expr_pieces d ++ anywhere token.comma ∷ x) (append-nil (expr_pieces e)) ∙ sym (append_assoc (expr_pieces d) (anywhere token.comma ∷ []) (expr_pieces e))
elements_pieces (d ∷ f ∷ es) e = ap (λ x. expr_pieces d ++ anywhere token.comma ∷ x) (elements_pieces (f ∷ es) e) ∙ sym (append_assoc (expr_pieces d) (anywhere token.comma ∷ each_comma (f ∷ es)) (expr_pieces e))

pub comma_more : (es : List FunExpr) (e : FunExpr) → each_comma (es ++ e ∷ []) ≡ each_comma es ++ (expr_pieces e ++ anywhere token.comma ∷ [])
comma_more [] e = refl
comma_more (d ∷ es) e = ap (λ x. expr_pieces d ++ anywhere token.comma ∷ x) (comma_more es e) ∙ sym (append_assoc (expr_pieces d) (anywhere token.comma ∷ each_comma es) (expr_pieces e ++ anywhere token.comma ∷ []))

-- ---- levels

-- an operand of this level may stand here
abbrev pub Admits : ℕ → List OpenPart → Type 0
Admits n [] = 1 ≤ n
Admits n (in_open_parens at ∷ fs) = 1 ≤ n
Admits n (in_open_call at s es ∷ fs) = 1 ≤ n
Admits n (in_open_list at es ∷ fs) = 1 ≤ n
Admits n (in_open_tail at es ∷ fs) = 1 ≤ n
Admits n (in_open_tuple at es ∷ fs) = 1 ≤ n
Admits n (after_left at o l ∷ fs) = right_level (operator_binding o) ≤ n
Admits n (after_prefix at o ∷ fs) = PREFIX_LEVEL ≤ n

abbrev pub AllLevel : List FunExpr → Type 0
AllLevel [] = Unit {0}
AllLevel (e ∷ es) = (has_level 1 e ≡ true) × AllLevel es

abbrev pub PartsOk : List OpenPart → Type 0
PartsOk [] = Unit {0}
PartsOk (in_open_parens at ∷ fs) = PartsOk fs
PartsOk (in_open_call at s es ∷ fs) = AllLevel es × PartsOk fs
PartsOk (in_open_list at es ∷ fs) = AllLevel es × PartsOk fs
PartsOk (in_open_tail at es ∷ fs) = (has_one (of_exprs es) ≡ true) × AllLevel es × PartsOk fs
PartsOk (in_open_tuple at es ∷ fs) = AllLevel es × PartsOk fs
PartsOk (after_left at o l ∷ fs) = (is_infix o ≡ true) × (has_level (left_level (operator_binding o)) l ≡ true) × Admits (level_of (operator_binding o)) fs × PartsOk fs
PartsOk (after_prefix at o ∷ fs) = (is_prefix o ≡ true) × Admits PREFIX_LEVEL fs × PartsOk fs

-- the level of what is no operator
abbrev pub TIGHT : ℕ
TIGHT = 7

abbrev pub StateOk : ExprState → Type 0
StateOk (wants fs) = PartsOk fs
StateOk (has e fs) = (has_level TIGHT e ≡ true) × PartsOk fs

pub all_levels : (es : List FunExpr) (e : FunExpr) → AllLevel es → has_level 1 e ≡ true → have_levels (of_exprs (es ++ e ∷ [])) ≡ true
all_levels [] e a h = and_from (has_level 1 e) true h refl
all_levels (d ∷ es) e a h = and_from (has_level 1 d) (have_levels (of_exprs (es ++ e ∷ []))) a.0 (all_levels es e a.1 h)

pub all_of_levels : (es : List FunExpr) → AllLevel es → have_levels (of_exprs es) ≡ true
all_of_levels [] a = refl
all_of_levels (d ∷ es) a = and_from (has_level 1 d) (have_levels (of_exprs es)) a.0 (all_of_levels es a.1)

pub more_levels : (es : List FunExpr) (e : FunExpr) → AllLevel es → has_level 1 e ≡ true → AllLevel (es ++ e ∷ [])
more_levels [] e a h = (h, tt)
more_levels (d ∷ es) e a h = (a.0, more_levels es e a.1 h)

pub one_at_least : (es : List FunExpr) (e : FunExpr) → has_one (of_exprs (es ++ e ∷ [])) ≡ true
one_at_least [] e = refl
one_at_least (d ∷ es) e = refl

-- an expression of a level is of each lower one
pub lower_level : (m n : ℕ) (e : FunExpr) → m ≤ n → has_level n e ≡ true → has_level m e ≡ true
lower_level m n (variable at s) h l = refl
lower_level m n (whole at k) h l = refl
lower_level m n (atom at s) h l = refl
lower_level m n (strings at s ss) h l = refl
lower_level m n (in_parens at e) h l = l
lower_level m n (call at s es) h l = l
lower_level m n (list at es) h l = l
lower_level m n (list_onto at es e) h l = l
lower_level m n (tuple at es) h l = l
lower_level m n (before at o e) h l =
    let a = and_parts (is_prefix o) _ l in
    let b = and_parts (nat_le n PREFIX_LEVEL) _ a.1 in
    let most = leb-true n PREFIX_LEVEL b.0 in
    and_from (is_prefix o) _ a.0 (and_from (nat_le m PREFIX_LEVEL) _ (le-leb m PREFIX_LEVEL (omega (arith, h, most))) b.1)
lower_level m n (between at o x y) h l =
    let k = level_of (operator_binding o) in
    let a = and_parts (is_infix o) _ l in
    let b = and_parts (nat_le n k) _ a.1 in
    let most = leb-true n k b.0 in
    and_from (is_infix o) _ a.0 (and_from (nat_le m k) _ (le-leb m k (omega (arith, h, most))) b.1)

-- the bounds of levels
pub record LevelBounds (o : FunOperator) : Type 0 where
  pub level : 1 ≤ level_of (operator_binding o)
  pub left : left_level (operator_binding o) ≤ 6
  pub right : right_level (operator_binding o) ≤ 6
  pub least : 1 ≤ left_level (operator_binding o)

pub level_bounds : (o : FunOperator) → LevelBounds o
level_bounds op.or_else = record { level = omega arith; left = omega arith; right = omega arith; least = omega arith }
level_bounds op.and_also = record { level = omega arith; left = omega arith; right = omega arith; least = omega arith }
level_bounds op.equal = record { level = omega arith; left = omega arith; right = omega arith; least = omega arith }
level_bounds op.not_equal = record { level = omega arith; left = omega arith; right = omega arith; least = omega arith }
level_bounds op.less_or_equal = record { level = omega arith; left = omega arith; right = omega arith; least = omega arith }
level_bounds op.less = record { level = omega arith; left = omega arith; right = omega arith; least = omega arith }
level_bounds op.greater_or_equal = record { level = omega arith; left = omega arith; right = omega arith; least = omega arith }
level_bounds op.greater = record { level = omega arith; left = omega arith; right = omega arith; least = omega arith }
level_bounds op.exactly_equal = record { level = omega arith; left = omega arith; right = omega arith; least = omega arith }
level_bounds op.exactly_not_equal = record { level = omega arith; left = omega arith; right = omega arith; least = omega arith }
level_bounds op.plus = record { level = omega arith; left = omega arith; right = omega arith; least = omega arith }
level_bounds op.minus = record { level = omega arith; left = omega arith; right = omega arith; least = omega arith }
level_bounds op.bit_or = record { level = omega arith; left = omega arith; right = omega arith; least = omega arith }
level_bounds op.bit_xor = record { level = omega arith; left = omega arith; right = omega arith; least = omega arith }
level_bounds op.one_of = record { level = omega arith; left = omega arith; right = omega arith; least = omega arith }
level_bounds op.just_one_of = record { level = omega arith; left = omega arith; right = omega arith; least = omega arith }
level_bounds op.times = record { level = omega arith; left = omega arith; right = omega arith; least = omega arith }
level_bounds op.divide = record { level = omega arith; left = omega arith; right = omega arith; least = omega arith }
level_bounds op.remainder = record { level = omega arith; left = omega arith; right = omega arith; least = omega arith }
level_bounds op.bit_and = record { level = omega arith; left = omega arith; right = omega arith; least = omega arith }
level_bounds op.all_of = record { level = omega arith; left = omega arith; right = omega arith; least = omega arith }
level_bounds op.bit_not = record { level = omega arith; left = omega arith; right = omega arith; least = omega arith }
level_bounds op.negation = record { level = omega arith; left = omega arith; right = omega arith; least = omega arith }

-- ---- operators that are gathered

-- no prefix waits
abbrev pub NoPrefix : List OpenPart → Type 0
NoPrefix (after_prefix at o ∷ fs) = ⊥
NoPrefix fs = Unit {0}

pub record IsGathered (k : ℕ) (e : FunExpr) (fs : List OpenPart) (p : FunExpr × List OpenPart) : Type 0 where
  pub level : ℕ
  pub least : k ≤ level
  pub good : has_level level p.0 ≡ true
  pub admits : Admits level p.1
  pub ok : PartsOk p.1
  pub bare : NoPrefix p.1
  pub same : state_pieces (has p.0 p.1) ≡ state_pieces (has e fs)

between_pieces : (at : ℕ) (o : FunOperator) (l e : FunExpr) (fs : List OpenPart) → state_pieces (has (between at o l e) fs) ≡ state_pieces (has e (after_left at o l ∷ fs))
between_pieces at o l e fs = let ps = parts_pieces fs in let x = at_offset at (token.operator o) in simp append_assoc

before_pieces : (at : ℕ) (o : FunOperator) (e : FunExpr) (fs : List OpenPart) → state_pieces (has (before at o e) fs) ≡ state_pieces (has e (after_prefix at o ∷ fs))
before_pieces at o e fs = simp append_assoc

pub between_level : (at : ℕ) (o : FunOperator) (l e : FunExpr) (n : ℕ) → is_infix o ≡ true → has_level (left_level (operator_binding o)) l ≡ true → right_level (operator_binding o) ≤ n → has_level n e ≡ true → has_level (level_of (operator_binding o)) (between at o l e) ≡ true
between_level at o l e n i a h g =
    let k = level_of (operator_binding o) in
    and_from (is_infix o) _ i (and_from (nat_le k k) _ (le-leb k k (omega arith)) (and_from (has_level (left_level (operator_binding o)) l) _ a (lower_level (right_level (operator_binding o)) n e h g)))

pub before_level : (at : ℕ) (o : FunOperator) (e : FunExpr) (n : ℕ) → is_prefix o ≡ true → PREFIX_LEVEL ≤ n → has_level n e ≡ true → has_level PREFIX_LEVEL (before at o e) ≡ true
before_level at o e n i h g = and_from (is_prefix o) _ i (and_from (nat_le PREFIX_LEVEL PREFIX_LEVEL) _ refl (lower_level PREFIX_LEVEL n e h g))

moved : (k : ℕ) (e f : FunExpr) (fs gs : List OpenPart) (p : FunExpr × List OpenPart) → state_pieces (has f gs) ≡ state_pieces (has e fs) → IsGathered k f gs p → IsGathered k e fs p
moved k e f fs gs p same g = record { level = g.level; least = g.least; good = g.good; admits = g.admits; ok = g.ok; bare = g.bare; same = g.same ∙ same }

stays : (k n : ℕ) (e : FunExpr) (fs : List OpenPart) → k ≤ n → has_level n e ≡ true → Admits n fs → PartsOk fs → NoPrefix fs → IsGathered k e fs (e, fs)
stays k n e fs h g a ok b = record { level = n; least = h; good = g; admits = a; ok = ok; bare = b; same = refl }

pub gather_ok : (k n : ℕ) (e : FunExpr) (fs : List OpenPart) → k ≤ n → k ≤ 6 → has_level n e ≡ true → Admits n fs → PartsOk fs → IsGathered k e fs (gather k e fs)
gather_ok k n e [] h small g a ok = stays k n e [] h g a ok tt
gather_ok k n e (in_open_parens at ∷ fs) h small g a ok = stays k n e _ h g a ok tt
gather_ok k n e (in_open_call at s es ∷ fs) h small g a ok = stays k n e _ h g a ok tt
gather_ok k n e (in_open_list at es ∷ fs) h small g a ok = stays k n e _ h g a ok tt
gather_ok k n e (in_open_tail at es ∷ fs) h small g a ok = stays k n e _ h g a ok tt
gather_ok k n e (in_open_tuple at es ∷ fs) h small g a ok = stays k n e _ h g a ok tt
gather_ok k n e (after_prefix at o ∷ fs) h small g a ok = moved k e (before at o e) (after_prefix at o ∷ fs) fs _ (before_pieces at o e fs) (gather_ok k PREFIX_LEVEL (before at o e) fs small small (before_level at o e n ok.0 a g) ok.1 ok.2)
gather_ok k n e (after_left at o l ∷ fs) h small g a ok =
    let m = level_of (operator_binding o) in
    cond_both (nat_le k m) (gather k (between at o l e) fs) (e, after_left at o l ∷ fs) (IsGathered k e (after_left at o l ∷ fs))
    (λ b. moved k e (between at o l e) (after_left at o l ∷ fs) fs _ (between_pieces at o l e fs) (gather_ok k m (between at o l e) fs (leb-true k m b) small (between_level at o l e n ok.0 ok.1 a g) ok.2 ok.3))
    (λ _. stays k n e _ h g a ok tt)
