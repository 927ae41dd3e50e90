-- A specification and what it is held against, as texts: the answer, and why there is none.
use Rattle.std.specs.Prelude.{◌≡◌, ◌≢◌, ◌≤◌, ℕ, List, map, pos, Option, Some, None, Ok}
use Rattle.std.specs.Option.{option_map}
use Rattle.std.specs.Borrow.{Bor}
use Rattle.std.specs.declared.vec.Vec.{Vec}
use Rattle.def_term.specs.Tree.{Tree, int, list, Trees, of_elements}
use Rattle.def_term.specs.Names.{Mfa, mfa_term}
use Rattle.def_text.specs.Spelling.{Spells}
use Rattle.def_spec.specs.Expressions as ex
use Rattle.def_spec.specs.Outcome as outcome
use Rattle.def_spec.specs.Reading.{spec_of}
use Rattle.def_session.specs.State.{alive_at_start}
use Rattle.def_term.specs.Alive.{PROCESSES}
use Rattle.def_explain.specs.Places.{stop_of}
use Rattle.def_explain.specs.Texts.{spec_test_flags, spec_test_text}
use Rattle.tn_term.specs.declared.term.Term.{Term}
use Rattle.tn_term.specs.declared.mfa.Mfa as code
use Rattle.tn_term.specs.Views.{tree_of, mfa_seen}
use Rattle.tn_text.specs.Answers.{IsTextRefusal}
use Rattle.tn_spec.specs.declared.func.Dialect.{Dialect}
use Rattle.tn_spec.specs.declared.spec.Spec.{Spec}
use Rattle.tn_spec.specs.Readings.{IsFaultIn, IsTooLarge, FaultAgreesWithSize}
use Rattle.tn_spec.specs.Views.{dialect_of}
use Rattle.tn_spec.specs.Wholes.{spec_seen}
use Rattle.tn_verdict.specs.declared.spec_test_input.SpecTestInput.{SpecTestInput}
use Rattle.tn_verdict.specs.declared.spec_test_input.SpecTestTerms.{SpecTestTerms}
use Rattle.tn_verdict.specs.declared.spec_test_input.SpecTestFault.{SpecTestFault}
use Rattle.tn_verdict.specs.declared.spec_test_input.SpecTestFault.TheVariants as faults

-- ---- the list

-- the text spells the list of these terms
abbrev pub IsList : List ℕ → List Tree → Type 0
IsList bytes ts = Spells bytes (list (of_elements ts))

abbrev pub IsListRead : {A : Type 0} → List ℕ → Vec (Term A) A → Type 0
IsListRead bytes v = IsList bytes (map tree_of v.items)

-- the text spells none: it is refused, or is another term
abbrev pub IsListFault : {A : Type 0} → List ℕ → SpecTestFault A → Type 0
IsListFault bytes (faults.List f) = IsTextRefusal bytes f
IsListFault bytes faults.NoList = (t : Tree) × Spells bytes t × ((ts : Trees) → t ≢ list ts)
IsListFault bytes faults.OutOfMemory = Unit {0}
IsListFault bytes _ = ⊥

-- ---- the caller

-- a number of parameters
abbrev pub IsArity : ℕ → Type 0
IsArity n = n ≤ 255

abbrev pub IsArityOf : Tree → Option ℕ → Type 0
IsArityOf t (Some n) = (t ≡ int (pos n)) × IsArity n
IsArityOf t None = (n : ℕ) → IsArity n → t ≢ int (pos n)

-- a term names a function, or none with at most 255 parameters
abbrev pub IsMfaOf : {A : Type 0} → Tree → Option (code.Mfa A) → Type 0
IsMfaOf t (Some m) = (t ≡ mfa_term (mfa_seen m)) × IsArity m.arity
IsMfaOf t None = (f : Mfa) → IsArity f.arity → t ≢ mfa_term f

abbrev pub IsNamed : {A : Type 0} → List ℕ → code.Mfa A → Type 0
IsNamed bytes m = Spells bytes (mfa_term (mfa_seen m)) × IsArity m.arity

abbrev pub IsCallerFault : {A : Type 0} → List ℕ → SpecTestFault A → Type 0
IsCallerFault bytes (faults.Caller f) = IsTextRefusal bytes f
IsCallerFault bytes faults.NoCaller = (t : Tree) × Spells bytes t × ((f : Mfa) → IsArity f.arity → t ≢ mfa_term f)
IsCallerFault bytes faults.OutOfMemory = Unit {0}
IsCallerFault bytes _ = ⊥

-- the function, where there is one
abbrev pub mfas_seen : {A : Type 0} → Option (code.Mfa A) → Option Mfa
mfas_seen m = option_map mfa_seen m

-- the text names this function, or there is neither
abbrev pub caller_is : Option (Bor (List ℕ)) → Option Mfa → Type 0
caller_is None None = Unit {0}
caller_is None (Some f) = ⊥
caller_is (Some bytes) None = ⊥
caller_is (Some bytes) (Some f) = Spells bytes.now (mfa_term f) × IsArity f.arity

-- there is a text, and it isn't right
abbrev pub HasCallerFault : {A : Type 0} → Option (Bor (List ℕ)) → SpecTestFault A → Type 0
HasCallerFault text f = (bytes : Bor (List ℕ)) × (text ≡ Some bytes) × IsCallerFault bytes.now f

-- ---- the specification

-- the text spells a term that is read as this specification
abbrev pub IsSpecification : List ℕ → Dialect → outcome.Spec → Type 0
IsSpecification bytes d s = (t : Tree) × Spells bytes t × (spec_of (dialect_of d) t ≡ Ok s) × (¬ IsTooLarge t)

abbrev pub IsSpecificationRead : {A : Type 0} → List ℕ → Dialect → Spec A → Type 0
IsSpecificationRead bytes d s = IsSpecification bytes d (spec_seen s)

-- the text is refused, or its term has this fault, at the first clause that can't be read
abbrev pub IsSpecificationFault : {A : Type 0} → List ℕ → Dialect → SpecTestFault A → Type 0
IsSpecificationFault bytes d (faults.Text f) = IsTextRefusal bytes f
IsSpecificationFault bytes d (faults.Spec n f) = (t : Tree) × Spells bytes t × IsFaultIn d t f × FaultAgreesWithSize t f × (n ≡ stop_of (dialect_of d) t)
IsSpecificationFault bytes d faults.OutOfMemory = Unit {0}
IsSpecificationFault bytes d _ = ⊥

-- ---- all three

-- the texts spell these terms
pub record AreTermsOf {A : Type 0} (q : SpecTestInput) (ts : SpecTestTerms A) : Type 0 where
  pub of_list : IsListRead q.list.now ts.list
  pub of_caller : caller_is q.caller (mfas_seen ts.caller)
  pub of_spec : IsSpecificationRead q.spec.now q.dialect ts.spec

-- ---- the answer

-- what the specification is evaluated in
abbrev pub context_of : SpecTestInput → List Tree → Option Mfa → ex.Context
context_of q ts c = record { matched_list = ts; self_pid = q.self_pid; caller_mfa = c; alive = alive_at_start PROCESSES; flags = spec_test_flags (dialect_of q.dialect) q.self_pid }

-- the text tells what becomes of the clauses
pub record IsAnswerTo (q : SpecTestInput) (text : List ℕ) : Type 0 where
  pub elements : List Tree
  pub caller : Option Mfa
  pub spec : outcome.Spec
  pub of_list : IsList q.list.now elements
  pub of_caller : caller_is q.caller caller
  pub of_spec : IsSpecification q.spec.now q.dialect spec
  pub reported : text ≡ spec_test_text spec.dialect spec.clauses (context_of q elements caller)

-- the list is right
abbrev pub HasList : SpecTestInput → Type 0
HasList q = (ts : List Tree) × IsList q.list.now ts

-- and the caller
abbrev pub HasCaller : SpecTestInput → Type 0
HasCaller q = (c : Option Mfa) × caller_is q.caller c

-- the texts before it are right, and this one isn't
abbrev pub IsNoAnswer : {A : Type 0} → SpecTestInput → SpecTestFault A → Type 0
IsNoAnswer {A} q (faults.List f) = IsListFault {A = A} q.list.now (faults.List f)
IsNoAnswer {A} q faults.NoList = IsListFault {A = A} q.list.now faults.NoList
IsNoAnswer {A} q (faults.Caller f) = HasList q × ((bytes : Bor (List ℕ)) × (q.caller ≡ Some bytes) × IsCallerFault {A = A} bytes.now (faults.Caller f))
IsNoAnswer {A} q faults.NoCaller = HasList q × ((bytes : Bor (List ℕ)) × (q.caller ≡ Some bytes) × IsCallerFault {A = A} bytes.now faults.NoCaller)
IsNoAnswer {A} q (faults.Text f) = HasList q × HasCaller q × IsSpecificationFault {A = A} q.spec.now q.dialect (faults.Text f)
IsNoAnswer {A} q (faults.Spec n f) = HasList q × HasCaller q × IsSpecificationFault {A = A} q.spec.now q.dialect (faults.Spec n f)
IsNoAnswer {A} q faults.OutOfMemory = Unit {0}
