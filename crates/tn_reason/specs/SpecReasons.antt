-- What the code's reasons why a term is no match specification stand for, and those of the code's terms.
use Rattle.std.specs.Prelude.{ℕ, List, drop, Option}
use Rattle.std.specs.Option.{option_map}
use Rattle.std.specs.Borrow.{Bor}
use Rattle.std.specs.declared.vec.Vec.{Vec}
use Rattle.def_term.specs.Tree.{Tree, atom, tuple, more}
use Rattle.def_term.specs.Names.{Name}
use Rattle.def_spec.specs.Matching.{Pattern}
use Rattle.def_spec.specs.Reading.{Reads}
use Rattle.def_explain.specs.SpecReasons as reasons
use Rattle.tn_term.specs.declared.term.Term.{Term}
use Rattle.tn_term.specs.Views.{tree_of, trees_of}
use Rattle.tn_spec.specs.declared.callee.Position.{Position}
use Rattle.tn_spec.specs.declared.func.Dialect.{Dialect}
use Rattle.tn_spec.specs.declared.variables.Variables.{Variables}
use Rattle.tn_spec.specs.Names.{position_seen}
use Rattle.tn_spec.specs.Readings.{head_in}
use Rattle.tn_spec.specs.Views.{dialect_of, action_of}
use Rattle.tn_reason.specs.declared.expression_reasons.ExpressionReason.{ExpressionReason}
use Rattle.tn_reason.specs.declared.expression_reasons.ExpressionReason.TheVariants.{NotInHead, NoVariable, NoCall, NoFunction, WrongCount, WrongPlace, NotSupported}
use Rattle.tn_reason.specs.declared.head_term_reasons.HeadTermReason.{HeadTermReason}
use Rattle.tn_reason.specs.declared.head_term_reasons.HeadTermReason.TheVariants.{NoHead, NoHeadVariable}
use Rattle.tn_reason.specs.declared.spec_reasons.ShapeReason.{ShapeReason}
use Rattle.tn_reason.specs.declared.spec_reasons.ShapeReason.TheVariants.{NoTuple, ElementCount, NoConditions, NoBody}
use Rattle.tn_reason.specs.declared.spec_reasons.ClauseReason.{ClauseReason}
use Rattle.tn_reason.specs.declared.spec_reasons.ClauseReason.TheVariants.{OfShape, OfHead, OfCondition, OfBody}
use Rattle.tn_reason.specs.declared.spec_reasons.SpecReason.{SpecReason}
use Rattle.tn_reason.specs.declared.spec_reasons.SpecReason.TheVariants.{NoClauses, AtClause}

-- ---- reasons

-- why a term itself is no expression
abbrev pub expression_reason_seen : {A : Type 0} → ExpressionReason A → reasons.ExpressionReason
expression_reason_seen (NotInHead s) = reasons.not_in_head s.now
expression_reason_seen (NoVariable s) = reasons.no_variable s.now
expression_reason_seen (NoCall v) = reasons.no_call (trees_of v.now.items)
expression_reason_seen (NoFunction s v) = reasons.no_function s.now (trees_of (drop 1 v.now.items))
expression_reason_seen (WrongCount s n) = reasons.wrong_count s.now n
expression_reason_seen (WrongPlace a) = reasons.wrong_place (action_of a)
expression_reason_seen (NotSupported s) = reasons.not_supported s.now

-- why a term is no head
abbrev pub head_term_reason_seen : {A : Type 0} → HeadTermReason A → reasons.HeadTermReason
head_term_reason_seen (NoHead t) = reasons.no_head (tree_of t.now)
head_term_reason_seen (NoHeadVariable s) = reasons.no_head_variable s.now

-- why a term has another form than a clause
abbrev pub shape_reason_seen : {A : Type 0} → ShapeReason A → reasons.ShapeReason
shape_reason_seen (NoTuple t) = reasons.no_tuple (tree_of t.now)
shape_reason_seen (ElementCount n) = reasons.element_count n
shape_reason_seen (NoConditions t) = reasons.no_conditions (tree_of t.now)
shape_reason_seen (NoBody t) = reasons.no_body (tree_of t.now)

-- why a term is no clause
abbrev pub clause_reason_seen : {A : Type 0} → ClauseReason A → reasons.ClauseReason
clause_reason_seen (OfShape r) = reasons.of_shape (shape_reason_seen r)
clause_reason_seen (OfHead r) = reasons.of_head (head_term_reason_seen r)
clause_reason_seen (OfCondition n r) = reasons.of_condition n (expression_reason_seen r)
clause_reason_seen (OfBody n r) = reasons.of_body n (expression_reason_seen r)

-- why a term is no specification
abbrev pub spec_reason_seen : {A : Type 0} → SpecReason A → reasons.SpecReason
spec_reason_seen (NoClauses t) = reasons.no_clauses (tree_of t.now)
spec_reason_seen (AtClause n r) = reasons.at_clause n (clause_reason_seen r)

-- ---- reasons, where there are any

-- the text of an atom that is lent
abbrev pub names_seen : Option (Bor (List ℕ)) → Option Name
names_seen r = option_map (λ s. s.now) r

-- why a term is no expression
abbrev pub expression_reasons_seen : {A : Type 0} → Option (ExpressionReason A) → Option reasons.ExpressionReason
expression_reasons_seen r = option_map expression_reason_seen r

-- the same, with how many terms are before it
abbrev pub counted_reasons_seen : {A : Type 0} → Option (ℕ × ExpressionReason A) → Option (ℕ × reasons.ExpressionReason)
counted_reasons_seen r = option_map (λ x. (x.0, expression_reason_seen x.1)) r

-- why a term is no head
abbrev pub head_term_reasons_seen : {A : Type 0} → Option (HeadTermReason A) → Option reasons.HeadTermReason
head_term_reasons_seen r = option_map head_term_reason_seen r

-- why a term is no clause
abbrev pub clause_reasons_seen : {A : Type 0} → Option (ClauseReason A) → Option reasons.ClauseReason
clause_reasons_seen r = option_map clause_reason_seen r

-- why a term is no specification
abbrev pub spec_reasons_seen : {A : Type 0} → Option (SpecReason A) → Option reasons.SpecReason
spec_reasons_seen r = option_map spec_reason_seen r

-- ---- of the code's terms

-- why a tree is no expression in that part of a clause with this head
abbrev pub expression_reason_of : {A : Type 0} → Dialect → Position → Variables A → Tree → Option reasons.ExpressionReason
expression_reason_of d part head t = reasons.expression_reason (dialect_of d) (position_seen part) (head_in head) t

-- why a tuple of this name and the terms after the first is no call
abbrev pub call_reason_of : {A : Type 0} → Dialect → Position → Name → Vec (Term A) A → Option reasons.ExpressionReason
call_reason_of d part name v = reasons.call_reason (dialect_of d) (position_seen part) name (trees_of (drop 1 v.items))

-- why such a tuple is no expression
abbrev pub named_reason_of : {A : Type 0} → Dialect → Position → Variables A → Name → Vec (Term A) A → Option reasons.ExpressionReason
named_reason_of d part head name v = expression_reason_of d part head (tuple (more (atom name) (trees_of (drop 1 v.items))))

-- why the first of the expressions in the terms from that place on is none
abbrev pub first_reason_of : {A : Type 0} → Dialect → Position → Variables A → Vec (Term A) A → ℕ → Option reasons.ExpressionReason
first_reason_of d part head v from =
    reasons.first_reason (reasons.own_reason (dialect_of d) (position_seen part) (head_in head)) (reasons.expressions_in_each (trees_of (drop from v.items)))

-- the first of the terms that is no expression there, and why
abbrev pub part_reason_of : {A : Type 0} → Dialect → Position → Pattern → Vec (Term A) A → Option (ℕ × reasons.ExpressionReason)
part_reason_of d part head v = reasons.reason_after (reasons.expression_reason (dialect_of d) (position_seen part) head) 0 (trees_of v.items)

-- why conditions and body aren't those of a clause with what is read as its head
abbrev pub reason_after_head_of : {A : Type 0} → Dialect → Reads Pattern → Vec (Term A) A → Vec (Term A) A → Option reasons.ClauseReason
reason_after_head_of d head conditions body = reasons.reason_after_head (dialect_of d) (trees_of conditions.items) (trees_of body.items) head

-- why head, conditions and body aren't those of a clause
abbrev pub parts_reason_of : {A : Type 0} → Dialect → Term A → Vec (Term A) A → Vec (Term A) A → Option reasons.ClauseReason
parts_reason_of d head conditions body = reasons.parts_reason (dialect_of d) (tree_of head) (trees_of conditions.items) (trees_of body.items)

-- why a tuple of these three is no clause
abbrev pub three_reason_of : {A : Type 0} → Dialect → Term A → Term A → Term A → Option reasons.ClauseReason
three_reason_of d head conditions body = reasons.three_reason (dialect_of d) (tree_of head) (tree_of conditions) (tree_of body)

-- why a tuple of these elements is no clause
abbrev pub fields_reason_of : {A : Type 0} → Dialect → Vec (Term A) A → Option reasons.ClauseReason
fields_reason_of d fields = reasons.clause_reason (dialect_of d) (tuple (trees_of fields.items))

-- the first of the terms that is no clause, and why
abbrev pub clauses_reason_of : {A : Type 0} → Dialect → Vec (Term A) A → Option reasons.SpecReason
clauses_reason_of d v = option_map (λ x. reasons.at_clause x.0 x.1) (reasons.reason_after (reasons.clause_reason (dialect_of d)) 0 (trees_of v.items))
