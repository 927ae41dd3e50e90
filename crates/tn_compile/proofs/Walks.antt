-- A walk over a head, step by step.
use Rattle.std.proofs.Common.{◌≡◌, ◌∙◌, sym, ap, refl, ℕ, suc, ◌+◌, ◌<◌, ◌≤◌, ◌==◌, nat_lt, nat_cmp, Bool, true, false, not, cond, List, [], ◌∷◌, ◌++◌, length, drop, get_or, Some, None, arith, append_assoc}
use Rattle.std.specs.List.{insert, position_or_len}
use Rattle.std.specs.Ordering.{is_eq}
use Rattle.std.specs.declared.cmp.Ordering.TheVariants.{Less, Equal, Greater}
use Rattle.std.specs.FinMap.{find, put}
use Rattle.std.specs.FinMap.Entries.{by_order}
use Rattle.std.proofs.lemmas.List.{drop_more, drop_all, append-nil}
use Rattle.def_spec.specs.Matching.{Pattern, Patterns, no_patterns, and_pattern}
use Rattle.def_machine.specs.Instructions.{Instruction, take_element, test_kind, test_length}
use Rattle.def_machine.specs.Compilation.{VariableRegisters, registers_taken, variables_after, variables_after_each, number_of_patterns}
use Rattle.def_machine.specs.HeadFolds.{folded_each}
use Rattle.tn_code.specs.Views.{shape_kind_seen}
use Rattle.tn_code.specs.declared.instr.Kind.{Kind}
use Rattle.tn_code.specs.declared.instr.Kind.TheVariants as kinds
use Rattle.tn_spec.specs.Views.{pattern_seen, patterns_seen}
use Rattle.tn_spec.specs.declared.pattern.Pattern as code
use Rattle.tn_compile.specs.Folds.{shape_pattern}
use Rattle.tn_compile.specs.Heads.{pattern_steps, each_steps}
use Rattle.tn_compile.specs.Views.{variable_seen, variables_seen}
use Rattle.tn_compile.specs.declared.emit_context.VariableRegister.{VariableRegister}

module _ (b : VariableRegister) where
  abbrev pub place_in : List VariableRegister → ℕ
  place_in xs = position_or_len (λ x. nat_lt b.number x.number) xs

  inserted_by : (x : VariableRegister) (xs : List VariableRegister) (lt eq : Bool)
      → (find nat_cmp b.number (variables_seen xs) ≡ None → variables_seen (insert xs (place_in xs) b) ≡ put nat_cmp b.number b.register (variables_seen xs))
      → cond (is_eq (cond lt Less (cond eq Equal Greater))) (Some x.register) (find nat_cmp b.number (variables_seen xs)) ≡ None
      → variables_seen (insert (x ∷ xs) (cond (not lt) (1 + place_in xs) 0) b)
      ≡ by_order (cond lt Less (cond eq Equal Greater)) (variable_seen b ∷ variables_seen (x ∷ xs)) ((x.number, b.register) ∷ variables_seen xs) (variable_seen x ∷ put nat_cmp b.number b.register (variables_seen xs))
  inserted_by x xs true eq rest h = refl
  inserted_by x xs false true rest h = cc
  inserted_by x xs false false rest h =
      let next : 1 + place_in xs ≡ suc (place_in xs) = omega arith in
      ap (λ i. variables_seen (insert (x ∷ xs) i b)) next ∙ ap (λ es. variable_seen x ∷ es) (rest h)

  -- an entry before the first of a greater number
  pub inserted : (xs : List VariableRegister) → find nat_cmp b.number (variables_seen xs) ≡ None → variables_seen (insert xs (place_in xs) b) ≡ put nat_cmp b.number b.register (variables_seen xs)
  inserted [] e = refl
  inserted (x ∷ xs) e = inserted_by x xs (nat_lt b.number x.number) (b.number == x.number) (inserted xs) e

pub patterns_here : {P : Type 0} (ps : List (code.Pattern P)) (i : ℕ) (p : code.Pattern P) → i < length ps → p ≡ get_or ps i p → patterns_seen (drop i ps) ≡ and_pattern (pattern_seen p) (patterns_seen (drop (i + 1) ps))
patterns_here ps i p below is = ap patterns_seen (drop_more ps i p below) ∙ ap (λ q. and_pattern (pattern_seen q) (patterns_seen (drop (i + 1) ps))) (sym is)

pub patterns_past : {P : Type 0} (ps : List (code.Pattern P)) (i : ℕ) → length ps ≤ i → patterns_seen (drop i ps) ≡ no_patterns
patterns_past ps i past = ap patterns_seen (drop_all i ps past)

-- the first of several patterns, and then the others
pub steps-more : (total front front1 front2 : List Instruction) (es rest : Patterns) (p : Pattern) (v w : VariableRegisters) (r i free d : ℕ) → es ≡ and_pattern p rest → front1 ≡ front ++ take_element free r i 0 ∷ [] → front2 ≡ front1 ++ pattern_steps p v free (free + 1) → w ≡ variables_after p v free (free + 1) → d ≡ free + 1 + registers_taken p → front ++ each_steps es v r i free ≡ total → front2 ++ each_steps rest w r (i + 1) d ≡ total
steps-more total front front1 front2 es rest p v w r i free d is pushed walked after more h =
    let n : free + 1 ≡ suc free = omega arith in
    let m : i + 1 ≡ suc i = omega arith in
    let k : d ≡ suc free + registers_taken p = omega (arith, more) in
    let t : Instruction = take_element free r i 0 in
    ap (λ x. x ++ each_steps rest w r (i + 1) d) walked
    ∙ append_assoc front1 (pattern_steps p v free (free + 1)) (each_steps rest w r (i + 1) d)
    ∙ ap (λ x. x ++ (pattern_steps p v free (free + 1) ++ each_steps rest w r (i + 1) d)) pushed
    ∙ append_assoc front (t ∷ []) (pattern_steps p v free (free + 1) ++ each_steps rest w r (i + 1) d)
    ∙ ap (λ ys. front ++ ys)
    (ap (λ q. t ∷ (pattern_steps p v free q ++ each_steps rest w r (i + 1) d)) n
    ∙ ap (λ x. t ∷ (pattern_steps p v free (suc free) ++ each_steps rest x r (i + 1) d)) (after ∙ ap (variables_after p v free) n)
    ∙ ap (λ q. t ∷ (pattern_steps p v free (suc free) ++ each_steps rest (variables_after p v free (suc free)) r q d)) m
    ∙ ap (λ q. t ∷ (pattern_steps p v free (suc free) ++ each_steps rest (variables_after p v free (suc free)) r (suc i) q)) k
    ∙ sym (ap (λ y. each_steps y v r i free) is))
    ∙ h

pub variables-more : (total v w : VariableRegisters) (es rest : Patterns) (p : Pattern) (free d : ℕ) → es ≡ and_pattern p rest → w ≡ variables_after p v free (free + 1) → d ≡ free + 1 + registers_taken p → variables_after_each es v free ≡ total → variables_after_each rest w d ≡ total
variables-more total v w es rest p free d is after more h =
    let n : free + 1 ≡ suc free = omega arith in
    let k : d ≡ suc free + registers_taken p = omega (arith, more) in
    ap (λ x. variables_after_each rest x d) (after ∙ ap (variables_after p v free) n)
    ∙ ap (variables_after_each rest (variables_after p v free (suc free))) k
    ∙ sym (ap (λ y. variables_after_each y v free) is)
    ∙ h

-- after the last of several patterns
pub steps-done : (total front : List Instruction) (es : Patterns) (v : VariableRegisters) (r i free : ℕ) → es ≡ no_patterns → front ++ each_steps es v r i free ≡ total → front ≡ total
steps-done total front es v r i free none h = sym (append-nil front) ∙ ap (λ q. front ++ each_steps q v r i free) (sym none) ∙ h

-- how many patterns there are
pub patterns-counted : {P : Type 0} (ps : List (code.Pattern P)) → number_of_patterns (folded_each (patterns_seen ps)) ≡ length ps
patterns-counted [] = refl
patterns-counted (p ∷ ps) = let others : number_of_patterns (folded_each (patterns_seen ps)) ≡ length ps = patterns-counted ps in omega (arith, others)

-- the tests of kind and number, and then each pattern
pub parts-walked : (k : Kind) (ps : Patterns) (front front1 front2 last : List Instruction) (v : VariableRegisters) (r n d : ℕ) → n ≡ number_of_patterns ps → front1 ≡ front ++ test_kind r (shape_kind_seen k) 0 ∷ [] → front2 ≡ front1 ++ test_length r n 0 ∷ [] → last ≡ front2 ++ each_steps ps v r 0 d → last ≡ front ++ pattern_steps (shape_pattern k ps) v r d
parts-walked k ps front front1 front2 last v r n d many first second walked =
    let a : Instruction = test_kind r (shape_kind_seen k) 0 in
    let b : Instruction = test_length r n 0 in
    walked ∙ ap (λ x. x ++ each_steps ps v r 0 d) (second ∙ ap (λ x. x ++ b ∷ []) first)
    ∙ append_assoc (front ++ a ∷ []) (b ∷ []) (each_steps ps v r 0 d)
    ∙ append_assoc front (a ∷ []) (b ∷ each_steps ps v r 0 d)
    ∙ ap (λ m. front ++ a ∷ test_length r m 0 ∷ each_steps ps v r 0 d) many
    ∙ ap (λ xs. front ++ xs) (steps-of k)
  where
    steps-of : (k : Kind) → test_kind r (shape_kind_seen k) 0 ∷ test_length r (number_of_patterns ps) 0 ∷ each_steps ps v r 0 d ≡ pattern_steps (shape_pattern k ps) v r d
    steps-of kinds.Tuple = refl
    steps-of kinds.List = refl
