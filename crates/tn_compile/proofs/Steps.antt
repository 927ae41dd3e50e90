-- The code of expressions, from the last one to the first.
use Rattle.std.proofs.Common.{false, if◌then◌else◌, ◌&&◌, ◌==◌, ◌≡◌, ℕ, zero, suc, ◌+◌, ◌-◌, ◌<◌, ◌≤◌, List, [], ◌∷◌, ◌++◌, length, drop, refl, sym, ap, ◌∙◌, arith, true, get_or, reverse, append_assoc, Bool, not}
use Rattle.std.proofs.lemmas.Bool.{ne_eqb}
use Rattle.std.proofs.lemmas.List.{drop_more, length-map, length-reverse}
use Rattle.std.specs.declared.vec.Vec.{Vec}
use Rattle.def_spec.specs.Functions.{truth}
use Rattle.def_spec.specs.Expressions as ex
use Rattle.def_spec.specs.Expressions.{Exprs, and_expr}
use Rattle.def_spec.specs.Functions.{Func}
use Rattle.def_machine.specs.Instructions.{kind_tuple, kind_list, OnFault, Instruction, load_constant, load_own_pid, build, apply_function, perform_action, change_flags, gives_exit}
use Rattle.def_machine.specs.Compilation.{VariableRegisters, register_of, registers_of, call_code, is_on_self, action_code}
use Rattle.tn_spec.specs.Sizes.{expr_size, exprs_size}
use Rattle.tn_spec.specs.Views.{dialect_of, expr_seen, exprs_seen}
use Rattle.tn_spec.specs.declared.expr.Expr.{Expr}
use Rattle.tn_code.specs.Views.{instruction_of}
use Rattle.tn_code.specs.declared.instr.Instr.{Instr}
use Rattle.tn_compile.specs.Views.{code_left, variables_seen, part_of, fault_in, fault_emitted}
use Rattle.tn_compile.specs.declared.emit_context.Position.{Position}
use Rattle.tn_compile.specs.declared.emit_context.Position.TheVariants.{Condition, Body}
use Rattle.tn_compile.specs.Emissions.{expr_emitted, exprs_emitted, short_circuit, tests_emitted, test_emitted, is_trace}
use Rattle.tn_compile.specs.declared.emit_context.EmitContext.{EmitContext}

pub exprs_here : {A : Type 0} (es : List (Expr A)) (i : ℕ) (e : Expr A) → i < length es → e ≡ get_or es i e → exprs_seen (drop i es) ≡ and_expr (expr_seen e) (exprs_seen (drop (i + 1) es))
exprs_here es i e below is = ap exprs_seen (drop_more es i e below) ∙ ap (λ f. and_expr (expr_seen f) (exprs_seen (drop (i + 1) es))) (sym is)

-- ---- sizes

one_at_least : (e : ex.Expr) → 1 ≤ expr_size e
one_at_least (ex.bound_to n) = omega arith
one_at_least ex.whole_list = omega arith
one_at_least ex.all_bound = omega arith
one_at_least (ex.constant t) = omega arith
one_at_least (ex.tuple_of es) = omega arith
one_at_least (ex.list_of es) = omega arith
one_at_least (ex.call f es) = omega arith
one_at_least (ex.and_also es) = omega arith
one_at_least (ex.or_else es) = omega arith
one_at_least (ex.perform a es) = omega arith

pub exprs-length : {A : Type 0} (es : List (Expr A)) → length es ≤ exprs_size (exprs_seen es)
exprs-length [] = omega arith
exprs-length (e ∷ es) = omega (arith, exprs-length es, one_at_least (expr_seen e))

pub expr-within : {A : Type 0} (es : List (Expr A)) (i : ℕ) (e : Expr A) → i < length es → e ≡ get_or es i e → i + expr_size (expr_seen e) ≤ exprs_size (exprs_seen es)
expr-within [] i e l is = absurd (omega (arith, l))
expr-within (x ∷ es) zero e l is = let s : expr_size (expr_seen e) ≡ expr_size (expr_seen x) = ap (λ y. expr_size (expr_seen y)) is in omega (arith, s)
expr-within (x ∷ es) (suc i) e l is = omega (arith, expr-within es i e (omega (arith, l)) is, one_at_least (expr_seen x))

-- ---- registers

pub registers-more : (v : VariableRegisters) (xs total : List ℕ) (es rest : Exprs) (e : ex.Expr) (free i r : ℕ) → es ≡ and_expr e rest → r ≡ register_of v e (free + i) → xs ++ registers_of v es (free + i) ≡ total → (xs ++ r ∷ []) ++ registers_of v rest (free + (i + 1)) ≡ total
registers-more v xs total es rest e free i r is at h =
    let n : free + (i + 1) ≡ suc (free + i) = omega arith in
    append_assoc xs (r ∷ []) (registers_of v rest (free + (i + 1)))
    ∙ ap (λ ys. xs ++ ys) (ap (λ m. r ∷ registers_of v rest m) n ∙ ap (λ q. q ∷ registers_of v rest (suc (free + i))) at ∙ sym (ap (λ y. registers_of v y (free + i)) is))
    ∙ h

-- ---- code

pub left-length : {A : Type 0} (c : Vec (Instr A) A) → length (code_left c) ≡ length c.items
left-length c = length-map (reverse c.items) instruction_of ∙ length-reverse c.items

call-is : (p : Position) (f : ℕ) (i : OnFault → Instruction) (k : List Instruction) → call_code (part_of p) f i k ≡ i (fault_in p f (length k)) ∷ k
call-is Condition f i k = refl
call-is Body f i k = refl

-- ---- actions

not-trace : (a : ex.Action) (es : Exprs) → is_trace a ≡ false → false ≡ is_on_self a es
not-trace ex.message es e = refl
not-trace ex.return_trace es e = refl
not-trace ex.exception_trace es e = refl
not-trace ex.silent es e = refl
not-trace ex.enable_trace es e = refl
not-trace ex.disable_trace es e = refl
not-trace ex.trace es e = absurd (cc)
not-trace ex.caller es e = refl

trace-on-two : {A : Type 0} (es : List (Expr A)) → (length es == 2) ≡ is_on_self ex.trace (exprs_seen es)
trace-on-two [] = refl
trace-on-two (e ∷ []) = refl
trace-on-two (e ∷ f ∷ []) = refl
trace-on-two (e ∷ f ∷ g ∷ es) = ne_eqb (length (e ∷ f ∷ g ∷ es)) 2 (λ h. omega (arith, h))

-- `trace` without a pid
pub two-of-trace : {A : Type 0} (a : ex.Action) (es : List (Expr A)) → is_trace a ≡ true → (length es == 2) ≡ is_on_self a (exprs_seen es)
two-of-trace ex.message es e = absurd (cc)
two-of-trace ex.return_trace es e = absurd (cc)
two-of-trace ex.exception_trace es e = absurd (cc)
two-of-trace ex.silent es e = absurd (cc)
two-of-trace ex.enable_trace es e = absurd (cc)
two-of-trace ex.disable_trace es e = absurd (cc)
two-of-trace ex.trace es e = trace-on-two es
two-of-trace ex.caller es e = absurd (cc)

-- the instruction of another action, and of `trace` on another number of registers
pub other-code : (d : ex.Dialect) (a : ex.Action) (to : ℕ) (rs : List ℕ) → (is_trace a && (length rs == 3)) ≡ false → perform_action d a to rs ≡ action_code d a to rs
other-code d ex.message to rs e = refl
other-code d ex.return_trace to rs e = refl
other-code d ex.exception_trace to rs e = refl
other-code d ex.silent to rs e = refl
other-code d ex.enable_trace to rs e = refl
other-code d ex.disable_trace to rs e = refl
other-code d ex.trace to [] e = refl
other-code d ex.trace to (p ∷ []) e = refl
other-code d ex.trace to (p ∷ q ∷ []) e = refl
other-code d ex.trace to (p ∷ q ∷ r ∷ []) e = absurd (cc)
other-code d ex.trace to (p ∷ q ∷ r ∷ u ∷ rs) e = refl
other-code d ex.caller to rs e = refl

-- that of `trace` on three
pub trace-code : (d : ex.Dialect) (a : ex.Action) (to : ℕ) (rs : List ℕ) (p off on : ℕ) → (is_trace a && (length rs == 3)) ≡ true → p ≡ get_or rs 0 p → off ≡ get_or rs 1 off → on ≡ get_or rs 2 on → change_flags to p off on gives_exit ≡ action_code d a to rs
trace-code d ex.message to rs p off on e x y z = absurd (cc)
trace-code d ex.return_trace to rs p off on e x y z = absurd (cc)
trace-code d ex.exception_trace to rs p off on e x y z = absurd (cc)
trace-code d ex.silent to rs p off on e x y z = absurd (cc)
trace-code d ex.enable_trace to rs p off on e x y z = absurd (cc)
trace-code d ex.disable_trace to rs p off on e x y z = absurd (cc)
trace-code d ex.trace to [] p off on e x y z = absurd (cc)
trace-code d ex.trace to (q ∷ []) p off on e x y z = absurd (cc)
trace-code d ex.trace to (q ∷ r ∷ []) p off on e x y z = absurd (cc)
trace-code d ex.trace to (q ∷ r ∷ u ∷ []) p off on e x y z =
    ap (λ n. change_flags to n off on gives_exit) x ∙ ap (λ n. change_flags to q n on gives_exit) y ∙ ap (λ n. change_flags to q r n gives_exit) z
trace-code d ex.trace to (q ∷ r ∷ u ∷ v ∷ rs) p off on e x y z = absurd (cc (sym (ne_eqb (length (q ∷ r ∷ u ∷ v ∷ rs)) 3 (λ h. omega (arith, h))) ∙ e))
trace-code d ex.caller to rs p off on e x y z = absurd (cc)

module _ (s : EmitContext) where
  -- the code of an expression that is seen as this one
  pub seen-emitted : (e f : ex.Expr) (free : ℕ) (k new : List Instruction) → e ≡ f → new ≡ expr_emitted s f free k → new ≡ expr_emitted s e free k
  seen-emitted e f free k new is h = h ∙ sym (ap (λ x. expr_emitted s x free k) is)

  pub tuple-emitted : (es : Exprs) (free : ℕ) (k old new : List Instruction) → old ≡ build kind_tuple free (registers_of (variables_seen s.variables.now) es free) ∷ k → new ≡ exprs_emitted s es free old → new ≡ expr_emitted s (ex.tuple_of es) free k
  tuple-emitted es free k old new before after = after ∙ ap (exprs_emitted s es free) before

  pub list-emitted : (es : Exprs) (free : ℕ) (k old new : List Instruction) → old ≡ build kind_list free (registers_of (variables_seen s.variables.now) es free) ∷ k → new ≡ exprs_emitted s es free old → new ≡ expr_emitted s (ex.list_of es) free k
  list-emitted es free k old new before after = after ∙ ap (exprs_emitted s es free) before

  pub call-emitted : (g : Func) (es : Exprs) (free n : ℕ) (k old new : List Instruction) → n ≡ length k → old ≡ apply_function g free (registers_of (variables_seen s.variables.now) es free) (fault_emitted s n) ∷ k → new ≡ exprs_emitted s es free old → new ≡ expr_emitted s (ex.call g es) free k
  call-emitted g es free n k old new is before after =
      after ∙ ap (exprs_emitted s es free)
      (before ∙ ap (λ m. apply_function g free (registers_of (variables_seen s.variables.now) es free) (fault_emitted s m) ∷ k) is
      ∙ sym (call-is s.part s.left (apply_function g free (registers_of (variables_seen s.variables.now) es free)) k))

  module _ (a : ex.Action) (es : Exprs) (free : ℕ) (k old new : List Instruction) where
    abbrev alone : List Instruction
    alone = exprs_emitted s es free (action_code (dialect_of s.dialect) a free (registers_of (variables_seen s.variables.now) es free) ∷ k)

    abbrev with_pid : List Instruction
    with_pid = load_own_pid free ∷ exprs_emitted s es (suc free) (action_code (dialect_of s.dialect) a free (free ∷ registers_of (variables_seen s.variables.now) es (suc free)) ∷ k)

    pub perform-emitted : is_on_self a es ≡ false → old ≡ action_code (dialect_of s.dialect) a free (registers_of (variables_seen s.variables.now) es free) ∷ k → new ≡ exprs_emitted s es free old → new ≡ expr_emitted s (ex.perform a es) free k
    perform-emitted is before after = after ∙ ap (exprs_emitted s es free) before ∙ sym (ap (λ q. if q then with_pid else alone) is)

    pub self-emitted : (loaded : List Instruction) → is_on_self a es ≡ true → old ≡ action_code (dialect_of s.dialect) a free (free ∷ registers_of (variables_seen s.variables.now) es (suc free)) ∷ k → new ≡ exprs_emitted s es (free + 1) old
        → loaded ≡ load_own_pid free ∷ new → loaded ≡ expr_emitted s (ex.perform a es) free k
    self-emitted loaded is before after load =
        let n : free + 1 ≡ suc free = omega arith in
        load ∙ ap (λ x. load_own_pid free ∷ x) (after ∙ ap (exprs_emitted s es (free + 1)) before ∙ ap (λ q. exprs_emitted s es q (action_code (dialect_of s.dialect) a free (free ∷ registers_of (variables_seen s.variables.now) es (suc free)) ∷ k)) n)
        ∙ sym (ap (λ q. if q then with_pid else alone) is)

  short-circuit-is : (stops : Bool) (es : Exprs) (free : ℕ) (k : List Instruction) → load_constant free (truth stops) ∷ tests_emitted s stops es (suc free) (length k) (load_constant free (truth (not stops)) ∷ k) ≡ expr_emitted s (short_circuit stops es) free k
  short-circuit-is true es free k = refl
  short-circuit-is false es free k = refl

  pub short-circuit-emitted : (stops : Bool) (es : Exprs) (free end : ℕ) (k a b new : List Instruction) → end ≡ length k → a ≡ load_constant free (truth (not stops)) ∷ k → b ≡ tests_emitted s stops es (free + 1) end a → new ≡ load_constant free (truth stops) ∷ b → new ≡ expr_emitted s (short_circuit stops es) free k
  short-circuit-emitted stops es free end k a b new is one two three =
      let n : free + 1 ≡ suc free = omega arith in
      three ∙ ap (λ x. load_constant free (truth stops) ∷ x)
      (two ∙ ap (tests_emitted s stops es (free + 1) end) one ∙ ap (λ q. tests_emitted s stops es q end (load_constant free (truth (not stops)) ∷ k)) n ∙ ap (λ q. tests_emitted s stops es (suc free) q (load_constant free (truth (not stops)) ∷ k)) is)
      ∙ short-circuit-is stops es free k

  pub exprs-more : (es rest : Exprs) (e : ex.Expr) (free i j : ℕ) (k old new : List Instruction) → i ≡ j + 1 → es ≡ and_expr e rest → old ≡ exprs_emitted s rest (free + i) k → new ≡ expr_emitted s e (free + j) old → new ≡ exprs_emitted s es (free + j) k
  exprs-more es rest e free i j k old new n is before after =
      let m : free + i ≡ suc (free + j) = omega (arith, n) in
      after ∙ ap (expr_emitted s e (free + j)) (before ∙ ap (λ q. exprs_emitted s rest q k) m) ∙ sym (ap (λ y. exprs_emitted s y (free + j) k) is)

  tests-first : (stops : Bool) (e : ex.Expr) (rest : Exprs) (free end : ℕ) (k : List Instruction) → let left = tests_emitted s stops rest free end k in
      expr_emitted s e free (load_constant (suc free) (truth true) ∷ test_emitted stops (register_of (variables_seen s.variables.now) e free) (suc free) (length left - end) left) ≡ tests_emitted s stops (and_expr e rest) free end k
  tests-first true e rest free end k = refl
  tests-first false e rest free end k = refl

  pub tests-more : (stops : Bool) (es rest : Exprs) (e : ex.Expr) (free end left m : ℕ) (k old tested loaded new : List Instruction) → es ≡ and_expr e rest → old ≡ tests_emitted s stops rest free end k → left ≡ register_of (variables_seen s.variables.now) e free → m ≡ length old → tested ≡ test_emitted stops left (free + 1) (m - end) old → loaded ≡ load_constant (free + 1) (truth true) ∷ tested → new ≡ expr_emitted s e free loaded → new ≡ tests_emitted s stops es free end k
  tests-more stops es rest e free end left m k old tested loaded new is before at there t l after =
      let n : free + 1 ≡ suc free = omega arith in
      let v : VariableRegisters = variables_seen s.variables.now in
      after
      ∙ ap (expr_emitted s e free)
      (l ∙ ap (λ x. load_constant (free + 1) (truth true) ∷ x) (t ∙ ap (λ q. test_emitted stops left (free + 1) (q - end) old) there ∙ ap (λ q. test_emitted stops q (free + 1) (length old - end) old) at)
      ∙ ap (λ q. load_constant q (truth true) ∷ test_emitted stops (register_of v e free) q (length old - end) old) n
      ∙ ap (λ x. load_constant (suc free) (truth true) ∷ test_emitted stops (register_of v e free) (suc free) (length x - end) x) before)
      ∙ tests-first stops e rest free end k
      ∙ sym (ap (λ y. tests_emitted s stops y free end k) is)
