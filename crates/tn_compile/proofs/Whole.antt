-- The code of a whole specification: its jumps stay inside, and it is valid.
use Rattle.std.proofs.Common.{◌≡◌, ℕ, suc, ◌+◌, ◌<◌, List, [], ◌∷◌, length, map, drop, get_or, refl, sym, ap, ◌∙◌, arith, unwrap_or}
use Rattle.std.proofs.lemmas.List.{drop_more}
use Rattle.std.proofs.Math.Logic.{∥∥₁_elim}
use Rattle.std.specs.Coded.{×_prop, Unit-prop, le_prop}
use Rattle.def_spec.specs.Expressions as ex
use Rattle.def_spec.specs.Outcome as outcome
use Rattle.def_spec.specs.Laws.{IsSound}
use Rattle.def_machine.specs.Instructions.{goes_on_at, gives_exit, Instruction, load_constant, load_list, load_own_pid, load_caller, take_element, take_rest, test_kind, test_length, test_equal, jump, build, apply_function, perform_action, change_flags, end_with_match, end_without_match}
use Rattle.def_machine.specs.Validity.{Each, ways, Valid}
use Rattle.def_machine.specs.Compilation.{clause_code, clauses_code, code_of}
use Rattle.def_machine.proofs.CompiledCode.{compiled_code_is_valid}
use Rattle.def_machine.specs.ExprFolds.{folded_clause}
use Rattle.def_machine.proofs.Fine.{sound-fine}
use Rattle.def_machine.proofs.FoldedClauses.{folded-fine}
use Rattle.def_machine.proofs.Inside.{StaysInside, clauses_inside}
use Rattle.tn_code.specs.OneProof.{valid-prop}
use Rattle.tn_spec.specs.Views.{clause_seen}
use Rattle.tn_spec.specs.declared.spec.Clause.{Clause}
use Rattle.tn_compile.specs.Emissions.{clauses_emitted}
use Rattle.tn_compile.specs.Places.{jump_place, JumpsInside}

pub clauses_here : {A : Type 0} (ks : List (Clause A)) (i : ℕ) (k : Clause A) → i < length ks → k ≡ get_or ks i k → map clause_seen (drop i ks) ≡ clause_seen k ∷ map clause_seen (drop (i + 1) ks)
clauses_here ks i k below is = ap (map clause_seen) (drop_more ks i k below) ∙ ap (λ q. clause_seen q ∷ map clause_seen (drop (i + 1) ks)) (sym is)

-- one clause more in front
pub clauses-more : (d : ex.Dialect) (ks rest : List outcome.Clause) (k : outcome.Clause) (end old new : List Instruction) → ks ≡ k ∷ rest → old ≡ clauses_emitted d rest end → new ≡ clause_code d (folded_clause k) old → new ≡ clauses_emitted d ks end
clauses-more d ks rest k end old new is before after = after ∙ ap (clause_code d (folded_clause k)) before ∙ sym (ap (λ y. clauses_emitted d y end) is)

pub clauses-are : (d : ex.Dialect) (ks : List outcome.Clause) → clauses_emitted d ks (end_without_match ∷ []) ≡ clauses_code d (map folded_clause ks)
clauses-are d [] = refl
clauses-are d (k ∷ ks) = ap (clause_code d (folded_clause k)) (clauses-are d ks)

-- ---- jumps

jump-inside : (i : Instruction) (n : ℕ) → Each (λ w. unwrap_or w.elsewhere 0 < n) (ways i) → jump_place i < suc n
jump-inside (load_constant to t) n h = omega arith
jump-inside (load_list to) n h = omega arith
jump-inside (load_own_pid to) n h = omega arith
jump-inside (load_caller to) n h = omega arith
jump-inside (take_element to from i p) n h = omega (arith, h.1.0)
jump-inside (take_rest to from p) n h = omega (arith, h.1.0)
jump-inside (test_kind from k p) n h = omega (arith, h.1.0)
jump-inside (test_length from l p) n h = omega (arith, h.1.0)
jump-inside (test_equal left right p) n h = omega (arith, h.1.0)
jump-inside (jump p) n h = omega (arith, h.0)
jump-inside (build k to rs) n h = omega arith
jump-inside (apply_function f to rs (goes_on_at p)) n h = omega (arith, h.1.0)
jump-inside (apply_function f to rs gives_exit) n h = omega arith
jump-inside (perform_action d a to rs) n h = omega arith
jump-inside (change_flags to p off on (goes_on_at q)) n h = omega (arith, h.1.0)
jump-inside (change_flags to p off on gives_exit) n h = omega arith
jump-inside end_with_match n h = omega arith
jump-inside end_without_match n h = omega arith

jumps-inside : (code : List Instruction) → StaysInside code → JumpsInside code
jumps-inside [] h = tt
jumps-inside (i ∷ rest) h = (jump-inside i (length rest) h.1, jumps-inside rest h.2)

jumps-prop : (code : List Instruction) → IsProp (JumpsInside code)
jumps-prop [] = Unit-prop
jumps-prop (i ∷ rest) = ×_prop le_prop (jumps-prop rest)

pub sound-jumps : (d : ex.Dialect) (s : outcome.Spec) → ∥ IsSound d s ∥₁ → JumpsInside (clauses_code d (map folded_clause s.clauses))
sound-jumps d s h =
    let ks : List outcome.Clause = map folded_clause s.clauses in
    ∥∥₁_elim h (jumps-prop (clauses_code d ks)) (λ x. jumps-inside (clauses_code d ks) (clauses_inside d ks (folded-fine s.clauses (sound-fine d s.clauses x.clauses))))

pub sound-valid : (s : outcome.Spec) → ∥ IsSound s.dialect s ∥₁ → Valid (code_of s)
sound-valid s h = ∥∥₁_elim h (valid-prop (code_of s)) (λ x. compiled_code_is_valid s x)
