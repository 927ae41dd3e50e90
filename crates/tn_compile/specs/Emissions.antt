-- The code of expressions, by what it is emitted for.
use Rattle.std.specs.Prelude.{◌≡◌, ℕ, suc, ◌-◌, Bool, true, false, List, [], ◌∷◌, length}
use Rattle.std.specs.declared.vec.Vec.{Vec}
use Rattle.def_spec.specs.Expressions as ex
use Rattle.def_spec.specs.Expressions.{Dialect, Expr, Exprs}
use Rattle.def_spec.specs.Outcome.{Clause}
use Rattle.def_machine.specs.Instructions.{Instruction, test_equal, jump, build, apply_function}
use Rattle.def_machine.specs.Compilation.{registers_of, action_code, expr_code, exprs_code, while_true_code, until_true_code, clause_code}
use Rattle.def_machine.specs.ExprFolds.{folded_clause}
use Rattle.tn_spec.specs.Views.{dialect_of, func_of, action_of}
use Rattle.tn_spec.specs.declared.func.Func.{Func}
use Rattle.tn_spec.specs.declared.func.Action.{Action}
use Rattle.tn_code.specs.Views.{instructions_of, shape_kind_seen}
use Rattle.tn_code.specs.declared.instr.Kind.{Kind}
use Rattle.tn_code.specs.declared.instr.Instr.{Instr}
use Rattle.tn_compile.specs.Heads.{in_front}
use Rattle.tn_compile.specs.Views.{code_left, fault_emitted, part_of, variables_seen}
use Rattle.tn_compile.specs.declared.emit_context.EmitContext.{EmitContext}
use Rattle.tn_compile.specs.declared.emit_context.Stop.{Stop}

abbrev pub expr_emitted : EmitContext → Expr → ℕ → List Instruction → List Instruction
expr_emitted s e d k = expr_code (dialect_of s.dialect) (part_of s.part) s.left (variables_seen s.variables.now) e d k

abbrev pub exprs_emitted : EmitContext → Exprs → ℕ → List Instruction → List Instruction
exprs_emitted s es d k = exprs_code (dialect_of s.dialect) (part_of s.part) s.left (variables_seen s.variables.now) es d k

-- the first value that is `true` stops `orelse`, and the first that isn't stops `andalso`
abbrev pub short_circuit : Bool → Exprs → Expr
short_circuit true es = ex.or_else es
short_circuit false es = ex.and_also es

-- k where no value stops the expressions, and else on to where g instructions are left
abbrev pub tests_emitted : EmitContext → Bool → Exprs → (d g : ℕ) → List Instruction → List Instruction
tests_emitted s true es d g k = until_true_code (dialect_of s.dialect) (part_of s.part) s.left (variables_seen s.variables.now) es d g k
tests_emitted s false es d g k = while_true_code (dialect_of s.dialect) (part_of s.part) s.left (variables_seen s.variables.now) es d g k

-- the test of one value, which is compared with `true`
abbrev pub test_emitted : Bool → (left right place : ℕ) → List Instruction → List Instruction
test_emitted true left right place k = test_equal left right 1 ∷ jump place ∷ k
test_emitted false left right place k = test_equal left right place ∷ k

-- the code of clauses, each folded, and then what follows where none fires
abbrev pub clauses_emitted : Dialect → List Clause → List Instruction → List Instruction
clauses_emitted d [] k = k
clauses_emitted d (c ∷ cs) k = clause_code d (folded_clause c) (clauses_emitted d cs k)

-- the action `trace`
abbrev pub is_trace : ex.Action → Bool
is_trace ex.trace = true
is_trace _ = false

-- ---- what is put in front of code, which stands from its end to its beginning

abbrev pub EmitsExpr : {A : Type 0} → EmitContext → Expr → ℕ → Vec (Instr A) A → Vec (Instr A) A → Type 0
EmitsExpr s e d old new = code_left new ≡ expr_emitted s e d (code_left old)

abbrev pub EmitsExprs : {A : Type 0} → EmitContext → Exprs → ℕ → Vec (Instr A) A → Vec (Instr A) A → Type 0
EmitsExprs s es d old new = code_left new ≡ exprs_emitted s es d (code_left old)

-- the instruction alone that makes a tuple or list of the values, or calls a function or an action on them
abbrev pub EmitsBuild : {A : Type 0} → EmitContext → Kind → Exprs → ℕ → Vec (Instr A) A → Vec (Instr A) A → Type 0
EmitsBuild s k es d old new = code_left new ≡ build (shape_kind_seen k) d (registers_of (variables_seen s.variables.now) es d) ∷ code_left old

abbrev pub EmitsApply : {A : Type 0} → EmitContext → Func → Exprs → ℕ → Vec (Instr A) A → Vec (Instr A) A → Type 0
EmitsApply s f es d old new =
    code_left new ≡ apply_function (func_of f) d (registers_of (variables_seen s.variables.now) es d) (fault_emitted s (length old.items)) ∷ code_left old

abbrev pub EmitsPerform : {A : Type 0} → EmitContext → Action → Exprs → ℕ → Vec (Instr A) A → Vec (Instr A) A → Type 0
EmitsPerform s a es d old new =
    code_left new ≡ action_code (dialect_of s.dialect) (action_of a) d (registers_of (variables_seen s.variables.now) es d) ∷ code_left old

-- on the own pid, which stands in front of the values
abbrev pub EmitsOnSelf : {A : Type 0} → EmitContext → Action → Exprs → ℕ → Vec (Instr A) A → Vec (Instr A) A → Type 0
EmitsOnSelf s a es d old new =
    code_left new ≡ action_code (dialect_of s.dialect) (action_of a) d (d ∷ registers_of (variables_seen s.variables.now) es (suc d)) ∷ code_left old

-- the whole call of an action
abbrev pub EmitsAction : {A : Type 0} → EmitContext → Action → Exprs → ℕ → Vec (Instr A) A → Vec (Instr A) A → Type 0
EmitsAction s a es = EmitsExpr s (ex.perform (action_of a) es)

-- `orelse` or `andalso`
abbrev pub EmitsShortCircuit : {A : Type 0} → EmitContext → Bool → Exprs → ℕ → Vec (Instr A) A → Vec (Instr A) A → Type 0
EmitsShortCircuit s stops es = EmitsExpr s (short_circuit stops es)

-- the test of the value in the left register, where the right one has `true`
abbrev pub EmitsTest : {A : Type 0} → (left right : ℕ) → Stop → Vec (Instr A) A → Vec (Instr A) A → Type 0
EmitsTest left right t old new = code_left new ≡ test_emitted t.on_true left right (length old.items - t.left) (code_left old)

abbrev pub EmitsTests : {A : Type 0} → EmitContext → Exprs → ℕ → Stop → Vec (Instr A) A → Vec (Instr A) A → Type 0
EmitsTests s es d t old new = code_left new ≡ tests_emitted s t.on_true es d t.left (code_left old)

abbrev pub EmitsClause : {A : Type 0} → Dialect → Clause → Vec (Instr A) A → Vec (Instr A) A → Type 0
EmitsClause d k old new = code_left new ≡ clause_code d (folded_clause k) (code_left old)

abbrev pub EmitsClauses : {A : Type 0} → Dialect → List Clause → Vec (Instr A) A → Vec (Instr A) A → Type 0
EmitsClauses d ks old new = code_left new ≡ clauses_emitted d ks (code_left old)

-- steps, each jumping to where f instructions are left
abbrev pub EmitsSteps : {A : Type 0} → ℕ → List (Instr A) → Vec (Instr A) A → Vec (Instr A) A → Type 0
EmitsSteps f steps old new = code_left new ≡ in_front f (instructions_of steps) (code_left old)
