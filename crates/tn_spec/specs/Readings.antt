-- What the code's functions read, in the definitions' words.
use Rattle.std.specs.Prelude.{◌≡◌, ◌≤◌, ◌^◌, ℕ, drop, MatchResult, Result, Ok, Err}
use Rattle.std.specs.declared.vec.Vec.{Vec}
use Rattle.def_term.specs.Tree.{Tree, tuple, list, atom, more, size}
use Rattle.def_term.specs.Names.{Name}
use Rattle.def_spec.specs.Matching.{Pattern}
use Rattle.def_spec.specs.Expressions.{Expr, Exprs}
use Rattle.def_spec.specs.Outcome as outcome
use Rattle.def_spec.specs.Reading as reading
use Rattle.def_spec.specs.Reading.{Reads, expr_of, exprs_of, clause_of_parts, spec_of}
use Rattle.tn_term.specs.declared.term.Term.{Term}
use Rattle.tn_term.specs.Views.{tree_of, trees_of}
use Rattle.tn_spec.specs.declared.callee.Position.{Position}
use Rattle.tn_spec.specs.declared.fault.SpecFault.{SpecFault}
use Rattle.tn_spec.specs.declared.fault.SpecFault.TheVariants.{Badarg, Unsupported, TooLarge, OutOfMemory}
use Rattle.tn_spec.specs.declared.func.Dialect.{Dialect}
use Rattle.tn_spec.specs.declared.pattern.Head.{Head}
use Rattle.tn_spec.specs.declared.spec.Spec.{Spec}
use Rattle.tn_spec.specs.declared.variables.Variables.{Variables}
use Rattle.tn_spec.specs.Names.{position_seen}
use Rattle.tn_spec.specs.Views.{dialect_of, head_seen}
use Rattle.tn_spec.specs.Wholes.{spec_seen}

-- the head whose variables they are
abbrev pub head_in : {A : Type 0} → Variables A → Pattern
head_in v = head_seen v.head.now

-- the expression that a tree is in that part of a clause with this head
abbrev pub expr_in : {A : Type 0} → Dialect → Position → Variables A → Tree → Reads Expr
expr_in d part head t = expr_of (dialect_of d) (position_seen part) (head_in head) t

-- that of a tuple of this name and the terms after the first
abbrev pub call_reads : {A : Type 0} → Dialect → Position → Variables A → Name → Vec (Term A) A → Reads Expr
call_reads d part head name v = expr_in d part head (tuple (more (atom name) (trees_of (drop 1 v.items))))

-- those of the terms from that place on
abbrev pub exprs_in : {A : Type 0} → Dialect → Position → Variables A → Vec (Term A) A → ℕ → Reads Exprs
exprs_in d part head v from = exprs_of (dialect_of d) (position_seen part) (head_in head) (trees_of (drop from v.items))

-- those of the terms in that part of a clause with this head
abbrev pub part_in : {A : Type 0} → Dialect → Position → Head A → Vec (Term A) A → Reads Exprs
part_in d part head v = exprs_of (dialect_of d) (position_seen part) (head_seen head) (trees_of v.items)

-- the clause of a head, conditions and a body
abbrev pub clause_in : {A : Type 0} → Dialect → Term A → Vec (Term A) A → Vec (Term A) A → Reads outcome.Clause
clause_in d head conditions body = clause_of_parts (dialect_of d) (tree_of head) (trees_of conditions.items) (trees_of body.items)

-- how many parts a term has that is too large
abbrev pub TOO_LARGE : ℕ
TOO_LARGE = 2 ^ 32

-- a fault of a term that is read as a specification: its first, or that it is too large; want of memory tells nothing of it
abbrev pub IsFaultIn : {A : Type 0} → Dialect → Tree → SpecFault A → Type 0
IsFaultIn d t Badarg = spec_of (dialect_of d) t ≡ Err reading.badarg
IsFaultIn d t (Unsupported s) = spec_of (dialect_of d) t ≡ Err (reading.unsupported s)
IsFaultIn d t TooLarge = TOO_LARGE ≤ size t
IsFaultIn d t OutOfMemory = Unit {0}

-- a list of a clause or more that has so many parts
abbrev pub IsTooLarge : Tree → Type 0
IsTooLarge (list (more t ts)) = TOO_LARGE ≤ size (list (more t ts))
IsTooLarge _ = ⊥

-- the fault of such a list is that it is too large, and no other term has it; want of memory tells nothing of it
abbrev pub FaultAgreesWithSize : {A : Type 0} → Tree → SpecFault A → Type 0
FaultAgreesWithSize t Badarg = ¬ IsTooLarge t
FaultAgreesWithSize t (Unsupported s) = ¬ IsTooLarge t
FaultAgreesWithSize t TooLarge = IsTooLarge t
FaultAgreesWithSize t OutOfMemory = Unit {0}

-- no such list is read
abbrev pub AgreesWithSize : {A : Type 0} → Tree → Result (Spec A) (SpecFault A) → Type 0
AgreesWithSize t result = MatchResult result (λ spec. ¬ IsTooLarge t) (λ fault. FaultAgreesWithSize t fault)

-- the specification that the term spells, or its fault
abbrev pub IsSpecRead : {A : Type 0} → Dialect → Tree → Result (Spec A) (SpecFault A) → Type 0
IsSpecRead d t result = MatchResult result (λ spec. spec_of (dialect_of d) t ≡ Ok (spec_seen spec)) (λ fault. IsFaultIn d t fault)
