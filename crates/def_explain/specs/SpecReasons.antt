-- Why a term is no match specification (own; "Match Specifications in Erlang", "Grammar").
-- Depends on how terms are read as specifications; which fault is the first is said there.
use Rattle.std.specs.Prelude.{◌≡◌, ◌≢◌, ℕ, zero, suc, true, false, ◌⊎◌, if◌then◌else◌, List, [], ◌∷◌, ◌++◌, Option, Some, None, Ok, Err}
use Rattle.std.specs.Option.{option_map, option_or}
use Rattle.def_term.specs.Tree.{Tree, int, atom, pid, tuple, list, Trees, none, more, count, triple}
use Rattle.def_term.specs.Names.{Name}
use Rattle.def_term.specs.Text.{is_among}
use Rattle.def_spec.specs.Matching.{Pattern, occurs}
use Rattle.def_spec.specs.Expressions.{Dialect, Action, Expr, Exprs, Position, in_condition, in_body}
use Rattle.def_spec.specs.Outcome.{Clause}
use Rattle.def_spec.specs.Reading.{SpecFault, badarg, unsupported, Reads, AtomKind, a_variable, a_wrong_variable, a_plain_atom, atom_kind, is_wildcard, head_of, Callee, a_function, an_and_also, an_or_else, an_action, Row, table, unsupported_names, found_in, is_allowed, takes, is_constant, expr_of, exprs_of, clause_of}

-- ---- reasons

-- why a term itself is no expression, whatever its arguments are
pub data ExpressionReason : Type 0 where
  -- a variable that the head doesn't bind
  not_in_head : Name → ExpressionReason
  -- `$` and digits that are no number of a variable
  no_variable : Name → ExpressionReason
  -- a tuple of these elements that is neither {{E1,..}}, {const,T} nor {F,E1,..}
  no_call : Trees → ExpressionReason
  -- the name of no function, and its arguments
  no_function : Name → Trees → ExpressionReason
  -- a function or an action with so many arguments
  wrong_count : Name → ℕ → ExpressionReason
  -- an action in a condition, or in a body for which the dialect hasn't it
  wrong_place : Action → ExpressionReason
  -- a function of the OTP documentation that this profile leaves out
  not_supported : Name → ExpressionReason

-- why a term is no head: it is neither a variable, '_' nor a list, or it has an atom of `$` and digits that is no variable
pub data HeadTermReason : Type 0 where
  no_head : Tree → HeadTermReason
  no_head_variable : Name → HeadTermReason

-- why a term isn't {Head,Conditions,Body}: it is no tuple, has so many elements, or its second or third element is no list
pub data ShapeReason : Type 0 where
  no_tuple : Tree → ShapeReason
  element_count : ℕ → ShapeReason
  no_conditions : Tree → ShapeReason
  no_body : Tree → ShapeReason

-- why a term is no clause: by its shape, by its head, or by the condition or the expression of the body after so many
pub data ClauseReason : Type 0 where
  of_shape : ShapeReason → ClauseReason
  of_head : HeadTermReason → ClauseReason
  of_condition : ℕ → ExpressionReason → ClauseReason
  of_body : ℕ → ExpressionReason → ClauseReason

-- why a term is no specification: it is no list of one clause or more, or the term after so many is no clause
pub data SpecReason : Type 0 where
  no_clauses : Tree → SpecReason
  at_clause : ℕ → ClauseReason → SpecReason

-- ---- the fault that is answered for a reason

-- an unsupported function has a fault of its own
abbrev pub expression_fault : ExpressionReason → SpecFault
expression_fault (not_supported s) = unsupported s
expression_fault r = badarg

-- of a clause
abbrev pub clause_fault : ClauseReason → SpecFault
clause_fault (of_shape r) = badarg
clause_fault (of_head r) = badarg
clause_fault (of_condition n r) = expression_fault r
clause_fault (of_body n r) = expression_fault r

-- of a specification
abbrev pub reason_fault : SpecReason → SpecFault
reason_fault (no_clauses t) = badarg
reason_fault (at_clause n r) = clause_fault r

-- ---- the first of several for which there is a reason

-- of the first for which there is one
abbrev pub IsFirstReason : {X R : Type 0} → (X → R → Type 0) → List X → R → Type 0
IsFirstReason Because [] r = ⊥
IsFirstReason {R} Because (x ∷ xs) r = Because x r ⊎ (((q : R) → ¬ Because x q) × IsFirstReason Because xs r)

-- each of the first n is so, and the next has this reason
abbrev pub HasReasonAt : {R : Type 0} → (Tree → Type 0) → (Tree → R → Type 0) → Trees → ℕ → R → Type 0
HasReasonAt IsSo Because none n r = ⊥
HasReasonAt IsSo Because (more t ts) zero r = Because t r
HasReasonAt IsSo Because (more t ts) (suc n) r = IsSo t × HasReasonAt IsSo Because ts n r

-- ---- heads

-- the atoms of a term, left to right
abbrev mutual
  pub atoms_in : Tree → List Name
  atoms_in (int z) = []
  atoms_in (atom s) = s ∷ []
  atoms_in (pid n) = []
  atoms_in (tuple ts) = atoms_in_each ts
  atoms_in (list ts) = atoms_in_each ts

  -- those of several terms
  pub atoms_in_each : Trees → List Name
  atoms_in_each none = []
  atoms_in_each (more t ts) = atoms_in t ++ atoms_in_each ts

-- `$` and digits that are no number of a variable
abbrev pub IsWrongVariable : Name → Name → Type 0
IsWrongVariable s r = (r ≡ s) × (atom_kind s ≡ a_wrong_variable)

-- an atom that is neither `$` and digits nor '_'
abbrev pub IsOtherAtom : Name → Type 0
IsOtherAtom s = (atom_kind s ≡ a_plain_atom) × (is_wildcard s ≡ false)

-- no list, and no atom but such
abbrev pub IsNoHead : Tree → Type 0
IsNoHead t = ((ts : Trees) → t ≢ list ts) × ((s : Name) → t ≡ atom s → IsOtherAtom s)

-- why the term is no head; of the wrong variables in it the first
abbrev pub IsHeadTermReason : Tree → HeadTermReason → Type 0
IsHeadTermReason t (no_head u) = (u ≡ t) × IsNoHead t
IsHeadTermReason t (no_head_variable s) = ((ts : Trees) → t ≢ tuple ts) × IsFirstReason IsWrongVariable (atoms_in t) s

-- ---- expressions

-- an expression, and then the expressions of which it consists, left to right, each before its own arguments
abbrev mutual
  pub expressions_in : Tree → List Tree
  expressions_in (int z) = int z ∷ []
  expressions_in (atom s) = atom s ∷ []
  expressions_in (pid n) = pid n ∷ []
  expressions_in (list ts) = list ts ∷ expressions_in_each ts
  expressions_in (tuple (more (tuple ts) none)) = tuple (more (tuple ts) none) ∷ expressions_in_each ts
  expressions_in (tuple (more (atom s) ts)) = tuple (more (atom s) ts) ∷ (if is_constant s ts then [] else expressions_in_each ts)
  expressions_in (tuple ts) = tuple ts ∷ []

  -- those of several terms
  pub expressions_in_each : Trees → List Tree
  expressions_in_each none = []
  expressions_in_each (more t ts) = expressions_in t ++ expressions_in_each ts

-- the elements of neither {{E1,..}} nor {F,E1,..}
abbrev pub IsNoCall : Trees → Type 0
IsNoCall ts = ((us : Trees) → ts ≢ more (tuple us) none) × ((s : Name) (us : Trees) → ts ≢ more (atom s) us)

-- {F,E1,..}, which isn't {const,T}
abbrev pub IsCallOf : Tree → Name → Trees → Type 0
IsCallOf t s ts = (t ≡ tuple (more (atom s) ts)) × (is_constant s ts ≡ false)

-- such a call of a name that isn't an unsupported one
abbrev pub IsNamedCall : Tree → Name → Trees → Type 0
IsNamedCall t s ts = IsCallOf t s ts × (is_among unsupported_names s ≡ false)

module _ (d : Dialect) (part : Position) (head : Pattern) where
  -- why a term itself is no expression
  abbrev pub IsOwnReason : Tree → ExpressionReason → Type 0
  IsOwnReason t (not_in_head s) = (t ≡ atom s) × ((n : ℕ) × (atom_kind s ≡ a_variable n) × (occurs n head ≡ false))
  IsOwnReason t (no_variable s) = (t ≡ atom s) × (atom_kind s ≡ a_wrong_variable)
  IsOwnReason t (no_call ts) = (t ≡ tuple ts) × IsNoCall ts
  IsOwnReason t (no_function s ts) = IsNamedCall t s ts × (found_in table s ≡ None)
  IsOwnReason t (wrong_count s n) =
      (ts : Trees) × (r : Row) × IsNamedCall t s ts × (found_in table s ≡ Some r) × (count ts ≡ n) × (takes r n ≡ false)
  IsOwnReason t (wrong_place a) =
      (s : Name) × (ts : Trees) × (r : Row) × IsNamedCall t s ts × (found_in table s ≡ Some r) × (takes r (count ts) ≡ true)
      × (r.called ≡ an_action a) × (is_allowed d part (an_action a) ≡ false)
  IsOwnReason t (not_supported s) = (ts : Trees) × IsCallOf t s ts × (is_among unsupported_names s ≡ true)

  -- why a term is no expression: of the expressions in it the first that itself is none
  abbrev pub IsExpressionReason : Tree → ExpressionReason → Type 0
  IsExpressionReason t r = IsFirstReason IsOwnReason (expressions_in t) r

  -- the term is an expression
  abbrev pub IsExpression : Tree → Type 0
  IsExpression t = (e : Expr) × (expr_of d part head t ≡ Ok e)

  -- the terms before it are expressions, and the one after so many is none
  abbrev pub HasExpressionReason : Trees → ℕ → ExpressionReason → Type 0
  HasExpressionReason ts n r = HasReasonAt IsExpression IsExpressionReason ts n r

-- ---- clauses

-- why the term isn't {Head,Conditions,Body}
abbrev pub IsShapeReason : Tree → ShapeReason → Type 0
IsShapeReason t (no_tuple u) = (u ≡ t) × ((ts : Trees) → t ≢ tuple ts)
IsShapeReason t (element_count n) = (ts : Trees) × (t ≡ tuple ts) × (count ts ≡ n) × (n ≢ 3)
IsShapeReason t (no_conditions c) = (h b : Tree) × (t ≡ triple h c b) × ((cs : Trees) → c ≢ list cs)
IsShapeReason t (no_body b) = (h : Tree) × (cs : Trees) × (t ≡ triple h (list cs) b) × ((bs : Trees) → b ≢ list bs)

-- {Head,Conditions,Body}
abbrev pub IsClauseOf : Tree → Tree → Trees → Trees → Type 0
IsClauseOf t h cs bs = t ≡ triple h (list cs) (list bs)

-- why the term is no clause: of its shape, its head, its conditions and its body the first that is at fault
abbrev pub IsClauseReason : Dialect → Tree → ClauseReason → Type 0
IsClauseReason d t (of_shape r) = IsShapeReason t r
IsClauseReason d t (of_head r) = (h : Tree) × (cs bs : Trees) × IsClauseOf t h cs bs × IsHeadTermReason h r
IsClauseReason d t (of_condition n r) =
    (h : Tree) × (cs bs : Trees) × (p : Pattern) × IsClauseOf t h cs bs × (head_of h ≡ Ok p) × HasExpressionReason d in_condition p cs n r
IsClauseReason d t (of_body n r) =
    (h : Tree) × (cs bs : Trees) × (p : Pattern) × (es : Exprs)
    × IsClauseOf t h cs bs × (head_of h ≡ Ok p) × (exprs_of d in_condition p cs ≡ Ok es) × HasExpressionReason d in_body p bs n r

-- ---- specifications

-- the term is a clause
abbrev pub IsClause : Dialect → Tree → Type 0
IsClause d t = (k : Clause) × (clause_of d t ≡ Ok k)

-- why the term is no specification: of its clauses the first that is none
abbrev pub IsSpecReason : Dialect → Tree → SpecReason → Type 0
IsSpecReason d t (no_clauses u) = (u ≡ t) × ((c : Tree) (cs : Trees) → t ≢ list (more c cs))
IsSpecReason d t (at_clause n r) = (ts : Trees) × (t ≡ list ts) × HasReasonAt (IsClause d) (IsClauseReason d) ts n r

-- ---- the same, computed

-- of the first for which there is one
abbrev pub first_reason : {X R : Type 0} → (X → Option R) → List X → Option R
first_reason f [] = None
first_reason f (x ∷ xs) = option_or (f x) (first_reason f xs)

-- of the first after n for which there is one, with how many are before it
abbrev pub reason_after : {R : Type 0} → (Tree → Option R) → ℕ → Trees → Option (ℕ × R)
reason_after f n none = None
reason_after f n (more t ts) = option_or (option_map (λ r. (n, r)) (f t)) (reason_after f (suc n) ts)

-- an atom by its kind
abbrev pub wrong_of_kind : Name → AtomKind → Option Name
wrong_of_kind s (a_variable n) = None
wrong_of_kind s a_wrong_variable = Some s
wrong_of_kind s a_plain_atom = None

-- an atom that is a wrong variable
abbrev pub wrong_variable : Name → Option Name
wrong_variable s = wrong_of_kind s (atom_kind s)

-- of an atom as a whole head
abbrev pub head_atom_reason : Name → AtomKind → Option HeadTermReason
head_atom_reason s (a_variable n) = None
head_atom_reason s a_wrong_variable = Some (no_head_variable s)
head_atom_reason s a_plain_atom = if is_wildcard s then None else Some (no_head (atom s))

-- of a head
abbrev pub head_term_reason : Tree → Option HeadTermReason
head_term_reason (atom s) = head_atom_reason s (atom_kind s)
head_term_reason (list ts) = option_map no_head_variable (first_reason wrong_variable (atoms_in_each ts))
head_term_reason t = Some (no_head t)

-- of an atom as an expression
abbrev pub atom_reason : Pattern → Name → AtomKind → Option ExpressionReason
atom_reason head s (a_variable n) = if occurs n head then None else Some (not_in_head s)
atom_reason head s a_wrong_variable = Some (no_variable s)
atom_reason head s a_plain_atom = None

-- of an action there
abbrev pub place_reason : Dialect → Position → Callee → Option ExpressionReason
place_reason d part (a_function f) = None
place_reason d part an_and_also = None
place_reason d part an_or_else = None
place_reason d part (an_action a) = if is_allowed d part (an_action a) then None else Some (wrong_place a)

-- of a call by what its name is
abbrev pub row_reason : Dialect → Position → Name → Trees → Option Row → Option ExpressionReason
row_reason d part s ts None = Some (no_function s ts)
row_reason d part s ts (Some r) = if takes r (count ts) then place_reason d part r.called else Some (wrong_count s (count ts))

-- of a call
abbrev pub call_reason : Dialect → Position → Name → Trees → Option ExpressionReason
call_reason d part s ts = if is_among unsupported_names s then Some (not_supported s) else row_reason d part s ts (found_in table s)

module _ (d : Dialect) (part : Position) (head : Pattern) where
  -- of a term itself
  abbrev pub own_reason : Tree → Option ExpressionReason
  own_reason (int z) = None
  own_reason (atom s) = atom_reason head s (atom_kind s)
  own_reason (pid n) = None
  own_reason (list ts) = None
  own_reason (tuple (more (tuple ts) none)) = None
  own_reason (tuple (more (atom s) ts)) = if is_constant s ts then None else call_reason d part s ts
  own_reason (tuple ts) = Some (no_call ts)

  -- of an expression
  abbrev pub expression_reason : Tree → Option ExpressionReason
  expression_reason t = first_reason own_reason (expressions_in t)

-- of conditions and body, once the head is read
abbrev pub reason_after_head : Dialect → Trees → Trees → Reads Pattern → Option ClauseReason
reason_after_head d cs bs (Err e) = None
reason_after_head d cs bs (Ok p) =
    option_or (option_map (λ x. of_condition x.0 x.1) (reason_after (expression_reason d in_condition p) 0 cs))
    (option_map (λ x. of_body x.0 x.1) (reason_after (expression_reason d in_body p) 0 bs))

-- of head, conditions and body
abbrev pub parts_reason : Dialect → Tree → Trees → Trees → Option ClauseReason
parts_reason d h cs bs = option_or (option_map of_head (head_term_reason h)) (reason_after_head d cs bs (head_of h))

-- of three elements
abbrev pub three_reason : Dialect → Tree → Tree → Tree → Option ClauseReason
three_reason d h (list cs) (list bs) = parts_reason d h cs bs
three_reason d h (list cs) b = Some (of_shape (no_body b))
three_reason d h c b = Some (of_shape (no_conditions c))

-- of a clause
abbrev pub clause_reason : Dialect → Tree → Option ClauseReason
clause_reason d (tuple (more h (more c (more b none)))) = three_reason d h c b
clause_reason d (tuple ts) = Some (of_shape (element_count (count ts)))
clause_reason d t = Some (of_shape (no_tuple t))

-- of a specification
abbrev pub spec_reason : Dialect → Tree → Option SpecReason
spec_reason d (list (more t ts)) = option_map (λ x. at_clause x.0 x.1) (reason_after (clause_reason d) 0 (more t ts))
spec_reason d t = Some (no_clauses t)
