-- The test accepts the code of a sound specification.
use Rattle.std.proofs.Common.{◌≡◌, ℕ, suc, ◌≤◌, List, [], ◌∷◌, length, map, Some, refl, sym, subst, ◌∙◌, arith, true, nat_lt, nat_cmp, is_some, slice_get, inl, ⊎_elim}
use Rattle.std.specs.FinMap.{find}
use Rattle.std.proofs.lemmas.Bool.{and_from, le-leb}
use Rattle.std.proofs.lemmas.Option.{slice_get_within, slice_get-get_or}
use Rattle.def_spec.specs.Matching.{occurs}
use Rattle.def_spec.specs.Expressions.{Dialect, in_condition, in_body}
use Rattle.def_spec.specs.Outcome.{Clause}
use Rattle.def_machine.specs.Instructions.{Instruction, load_list, end_with_match, end_without_match}
use Rattle.def_machine.specs.Validity.{Valid, LeadsForward, IsInPlace, ways, leads_to, reads, has_its_number}
use Rattle.def_machine.specs.Acceptance.{all_of_them, where_standing, leads_forward, is_set_before, is_fine, is_checked}
use Rattle.def_machine.specs.ExprFolds.{folded_clause}
use Rattle.def_machine.specs.Compilation.{VariableRegisters, registers_taken, variables_after, pattern_code, exprs_code, while_true_code, clauses_code, code_of, code_from}
use Rattle.def_machine.proofs.Fine.{AreFineClauses, sound-fine}
use Rattle.def_machine.proofs.FoldedClauses.{folded-fine}
use Rattle.def_machine.proofs.Fronts.{pattern_front, exprs_front, while_front}
use Rattle.def_machine.proofs.PlacedCode.{placed-length}
use Rattle.def_machine.proofs.CompiledCode.{compiled_code_is_valid}
use Rattle.def_machine.specs.Laws.{CompiledCodeIsChecked}
use Rattle.def_machine.proofs.AcceptedTests.{below-all, each-tested}
use Rattle.def_machine.proofs.AcceptedPlaces.{Reached, ReadsAccepted, longer, by_step, by_setting}
use Rattle.def_machine.proofs.AcceptedVariables.{registers_later}
use Rattle.def_machine.proofs.Occurrences.{pattern_where}
use Rattle.def_machine.proofs.AcceptedHeads.{pattern_accepted}
use Rattle.def_machine.proofs.AcceptedExpressions.{With, with_more, without, Targets, exprs_accepted, while_accepted}

-- no place is a target
abbrev Nowhere : ℕ → Type 0
Nowhere n = ⊥

-- ---- clauses

module _ (left : List Instruction) (dialect : Dialect) where
  past_the_end : (a : ℕ) (T : ℕ → Type 0) → Reached left a [] T → ReadsAccepted left a
  past_the_end a T here p i le at = absurd (omega (arith, le, here.size, slice_get_within (code_from 0 left) p i at, placed-length 0 left))

  clauses_accepted : (ks : List Clause) → AreFineClauses ks → (a : ℕ) → Reached left a (clauses_code dialect ks) Nowhere → ReadsAccepted left a
  clauses_accepted [] fine a here = by_step left a end_without_match [] Nowhere here 0 (omega arith) tt tt (past_the_end (suc a) Nowhere)
  clauses_accepted (k ∷ ks) fine a here =
      let F : List Instruction = clauses_code dialect ks in
      let f : ℕ = length F in
      let T : ℕ → Type 0 = With left f Nowhere in
      let targets : Targets left f f T = record { fault = inl refl; few = omega arith; above = λ n x. ⊎_elim (λ e. omega (arith, e)) (λ t. absurd t) x } in
      let env : VariableRegisters = variables_after k.head [] 0 1 in
      let has : (n : ℕ) → occurs n k.head ≡ true → is_some (find nat_cmp n env) ≡ true = λ n w. pattern_where n k.head [] 0 1 ∙ w in
      let d : ℕ = suc (registers_taken k.head) in
      let body : List Instruction = exprs_code dialect in_body f env k.body d (end_with_match ∷ F) in
      let body_few : f ≤ length body = longer body (end_with_match ∷ F) f (exprs_front dialect in_body f env k.body d (end_with_match ∷ F)) (omega arith) in
      let conditions : List Instruction = while_true_code dialect in_condition f env k.conditions d f body in
      let conditions_few : f ≤ length conditions = longer conditions body f (while_front dialect in_condition f env k.conditions d f body) body_few in
      by_setting left a (load_list 0) (pattern_code k.head [] 0 1 f conditions) T (with_more left a _ f Nowhere here) 0 f targets.above [] refl tt (longer _ conditions f (pattern_front k.head [] 0 1 f conditions) conditions_few) tt
      (λ next own. pattern_accepted left f T targets.fault targets.above k.head [] 0 1 (suc a) conditions conditions_few next own tt
      (λ b le at_conditions set. while_accepted left f dialect in_condition k.head env has k.conditions d b f body T targets (inl refl) body_few fine.0.conditions at_conditions set
      (λ c le1 at_body. exprs_accepted left f dialect in_body k.head env has k.body d c f (end_with_match ∷ F) T targets (omega arith) fine.0.body at_body (registers_later left b c f f env le1 (omega arith) set)
      (λ e le2 at_end others. by_step left e end_with_match F T at_end f (omega arith) tt tt (λ last. clauses_accepted ks fine.1 (suc e) (without left (suc e) F Nowhere last))))))

-- ---- the test

module _ (code : List Instruction) (valid : Valid code) (accepted : (p : ℕ) (i : Instruction) → slice_get code p ≡ Some i → all_of_them (is_set_before code p) (reads i) ≡ true) where
  forward : (p : ℕ) (i : Instruction) → IsInPlace code p i → all_of_them (leads_forward (length code) p) (ways i) ≡ true
  forward p i h = each-tested (LeadsForward code p) (leads_forward (length code) p) (ways i)
      (λ w l. and_from (nat_lt p (leads_to p w)) _ (le-leb (suc p) (leads_to p w) l.forward) (le-leb (suc (leads_to p w)) (length code) l.inside)) h.forward

  fine_at : (p : ℕ) (i : Instruction) → slice_get code p ≡ Some i → where_standing (is_fine code p) (slice_get code p) ≡ true
  fine_at p i at =
      let h : IsInPlace code p i = valid.in_place p i at in
      subst (λ x. where_standing (is_fine code p) x ≡ true) (sym at) (and_from (has_its_number i) _ h.number (and_from (all_of_them (leads_forward (length code) p) (ways i)) _ (forward p i h) (accepted p i at)))

  is_accepted : is_checked code ≡ true
  is_accepted = and_from (nat_lt 0 (length code)) _ (le-leb 1 (length code) valid.nonempty)
      (below-all (length code) (λ p. where_standing (is_fine code p) (slice_get code p)) (λ p l. fine_at p _ (slice_get-get_or code p end_with_match l)))

pub compiled_code_is_accepted : CompiledCodeIsChecked
compiled_code_is_accepted s h =
    let ks : List Clause = map folded_clause s.clauses in
    let left : List Instruction = clauses_code s.dialect ks in
    let here : Reached left 0 left Nowhere = record { is_left = refl; size = omega arith; lead_here = λ j i l at. absurd (omega (arith, l)) } in
    let reads_accepted : ReadsAccepted left 0 = clauses_accepted left s.dialect ks (folded-fine s.clauses (sound-fine s.dialect s.clauses h.clauses)) 0 here in
    is_accepted (code_of s) (compiled_code_is_valid s h) (λ p i at. reads_accepted p i (omega arith) at)
