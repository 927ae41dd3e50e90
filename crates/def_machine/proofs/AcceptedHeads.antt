-- The code of a head reads what is set, and sets the registers of its variables.
use Rattle.std.proofs.Common.{ℕ, suc, ◌+◌, ◌-◌, ◌≤◌, List, [], ◌∷◌, length, Option, Some, None, refl, arith, nat_cmp}
use Rattle.std.specs.FinMap.{find}
use Rattle.def_spec.specs.Matching.{Pattern, Patterns, variable, anything, only_term, in_tuple, in_list, no_patterns, and_pattern}
use Rattle.def_machine.specs.Instructions.{ShapeKind, kind_tuple, kind_list, Instruction, load_constant, take_element, test_kind, test_length, test_equal}
use Rattle.def_machine.specs.Validity.{away}
use Rattle.def_machine.specs.Compilation.{VariableRegisters, registers_taken, variable_met, variables_after, variables_after_each, variable_code, number_of_patterns, shape_code, pattern_code, each_pattern_code}
use Rattle.def_machine.proofs.Fronts.{pattern_front, each_front}
use Rattle.def_machine.proofs.AcceptedPlaces.{Reached, IsSet, ReadsAccepted, set_on, next_set, longer, jump_target, by_step, by_setting}
use Rattle.def_machine.proofs.AcceptedVariables.{EachRegister, WhereFound, each-put, each-found, registers_later}

-- T has the place where f instructions are left, and none before it
module _ (left : List Instruction) (f : ℕ) (T : ℕ → Type 0) (fault : T (length left - f)) (above : (n : ℕ) → T n → length left ≤ n + f) where
  kept : (a b : ℕ) (env : VariableRegisters) → a ≤ b → EachRegister (IsSet left a f) env → EachRegister (IsSet left b f) env
  kept a b env le h = registers_later left a b f f env le (omega arith) h

  variable_accepted : (n : ℕ) (env : VariableRegisters) (r a : ℕ) (k : List Instruction) (x : Option ℕ) → f ≤ length k → Reached left a (variable_code x r f k) T → WhereFound (IsSet left a f) x → IsSet left a f r → EachRegister (IsSet left a f) env → ((b : ℕ) → a ≤ b → Reached left b k T → EachRegister (IsSet left b f) (variable_met n r env x) → ReadsAccepted left b) → ReadsAccepted left a
  variable_accepted n env r a k None few here at is set after = after a (omega arith) here (each-put (IsSet left a f) n r env is set)
  variable_accepted n env r a k (Some q) few here at is set after =
      by_step left a (test_equal q r (length k - f)) k T here f few (at, (is, tt)) (tt, (jump_target left a f _ k T here few fault, tt)) (λ next. after (suc a) (omega arith) next (kept a (suc a) env (omega arith) set))

  shape_accepted : (kind : ShapeKind) (n r a : ℕ) (k : List Instruction) → f ≤ length k → Reached left a (shape_code kind n r f k) T → IsSet left a f r → (Reached left (suc (suc a)) k T → ReadsAccepted left (suc (suc a))) → ReadsAccepted left a
  shape_accepted kind n r a k few here is after =
      let k1 : List Instruction = test_length r n (length k - f) ∷ k in
      let few1 : f ≤ length k1 = omega (arith, few) in
      by_step left a (test_kind r kind (length k1 - f)) k1 T here f few1 (is, tt) (tt, (jump_target left a f _ k1 T here few1 fault, tt))
      (λ next. by_step left (suc a) (test_length r n (length k - f)) k T next f few (next_set left a f r is, tt) (tt, (jump_target left (suc a) f _ k T next few fault, tt)) after)

  mutual
    pub pattern_accepted : (p : Pattern) (env : VariableRegisters) (r d a : ℕ) (k : List Instruction) → f ≤ length k → Reached left a (pattern_code p env r d f k) T → IsSet left a f r → EachRegister (IsSet left a f) env → ((b : ℕ) → a ≤ b → Reached left b k T → EachRegister (IsSet left b f) (variables_after p env r d) → ReadsAccepted left b) → ReadsAccepted left a
    pattern_accepted (variable n) env r d a k few here is set after = variable_accepted n env r a k (find nat_cmp n env) few here (each-found (IsSet left a f) n env set) is set after
    pattern_accepted anything env r d a k few here is set after = after a (omega arith) here set
    pattern_accepted (only_term t) env r d a k few here is set after =
        by_setting left a (load_constant d t) (test_equal d r (length k - f) ∷ k) T here d f above [] refl tt (omega (arith, few)) tt
        (λ next own. by_step left (suc a) (test_equal d r (length k - f)) k T next f few (own, (next_set left a f r is, tt)) (tt, (jump_target left (suc a) f _ k T next few fault, tt))
        (λ last. after (suc (suc a)) (omega arith) last (kept a (suc (suc a)) env (omega arith) set)))
    pattern_accepted (in_tuple ps) env r d a k few here is set after =
        let few1 : f ≤ length (each_pattern_code ps env r 0 d f k) = longer _ k f (each_front ps env r 0 d f k) few in
        shape_accepted kind_tuple (number_of_patterns ps) r a (each_pattern_code ps env r 0 d f k) few1 here is
        (λ next. each_accepted ps env r 0 d (suc (suc a)) k few next (next_set left (suc a) f r (next_set left a f r is)) (kept a (suc (suc a)) env (omega arith) set) (λ b le last all. after b (omega (arith, le)) last all))
    pattern_accepted (in_list ps) env r d a k few here is set after =
        let few1 : f ≤ length (each_pattern_code ps env r 0 d f k) = longer _ k f (each_front ps env r 0 d f k) few in
        shape_accepted kind_list (number_of_patterns ps) r a (each_pattern_code ps env r 0 d f k) few1 here is
        (λ next. each_accepted ps env r 0 d (suc (suc a)) k few next (next_set left (suc a) f r (next_set left a f r is)) (kept a (suc (suc a)) env (omega arith) set) (λ b le last all. after b (omega (arith, le)) last all))

    each_accepted : (ps : Patterns) (env : VariableRegisters) (r i d a : ℕ) (k : List Instruction) → f ≤ length k → Reached left a (each_pattern_code ps env r i d f k) T → IsSet left a f r → EachRegister (IsSet left a f) env → ((b : ℕ) → a ≤ b → Reached left b k T → EachRegister (IsSet left b f) (variables_after_each ps env d) → ReadsAccepted left b) → ReadsAccepted left a
    each_accepted no_patterns env r i d a k few here is set after = after a (omega arith) here set
    each_accepted (and_pattern p ps) env r i d a k few here is set after =
        let env1 : VariableRegisters = variables_after p env d (suc d) in
        let k1 : List Instruction = each_pattern_code ps env1 r (suc i) (suc d + registers_taken p) f k in
        let few1 : f ≤ length k1 = longer k1 k f (each_front ps env1 r (suc i) (suc d + registers_taken p) f k) few in
        let k2 : List Instruction = pattern_code p env d (suc d) f k1 in
        let few2 : f ≤ length k2 = longer k2 k1 f (pattern_front p env d (suc d) f k1) few1 in
        by_setting left a (take_element d r i (length k2 - f)) k2 T here d f above (away _ ∷ []) refl (jump_target left a f _ k2 T here few2 fault, tt) few2 (is, tt)
        (λ next own. pattern_accepted p env d (suc d) (suc a) k1 few1 next own (kept a (suc a) env (omega arith) set)
        (λ b le then set1. each_accepted ps env1 r (suc i) (suc d + registers_taken p) b k few then (set_on left a b f r (omega (arith, le)) is) set1
        (λ c le1 last set2. after c (omega (arith, le, le1)) last set2)))
