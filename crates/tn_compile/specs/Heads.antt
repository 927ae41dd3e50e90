-- The code of heads as it is made from its beginning, before it is known how many instructions each jump passes.
use Rattle.std.specs.Prelude.{ℕ, suc, ◌+◌, ◌-◌, List, [], ◌∷◌, ◌++◌, length, Option, Some, None}
use Rattle.std.specs.Ordering.{nat_cmp}
use Rattle.std.specs.FinMap.{find}
use Rattle.def_spec.specs.Matching.{Pattern, Patterns, variable, anything, only_term, in_tuple, in_list, no_patterns, and_pattern}
use Rattle.def_machine.specs.Instructions.{kind_tuple, kind_list, Instruction, load_constant, take_element, test_kind, test_length, test_equal}
use Rattle.def_machine.specs.Compilation.{VariableRegisters, registers_taken, variables_after, number_of_patterns}

-- a variable that is met again is compared
abbrev pub variable_steps : Option ℕ → (r : ℕ) → List Instruction
variable_steps None r = []
variable_steps (Some q) r = test_equal q r 0 ∷ []

-- a pattern against register r, with those from d on free
abbrev mutual
  pub pattern_steps : Pattern → VariableRegisters → (r d : ℕ) → List Instruction
  pattern_steps (variable n) v r d = variable_steps (find nat_cmp n v) r
  pattern_steps anything v r d = []
  pattern_steps (only_term t) v r d = load_constant d t ∷ test_equal d r 0 ∷ []
  pattern_steps (in_tuple ps) v r d = test_kind r kind_tuple 0 ∷ test_length r (number_of_patterns ps) 0 ∷ each_steps ps v r 0 d
  pattern_steps (in_list ps) v r d = test_kind r kind_list 0 ∷ test_length r (number_of_patterns ps) 0 ∷ each_steps ps v r 0 d

  -- each pattern against the elements of register r, from the i-th on
  pub each_steps : Patterns → VariableRegisters → (r i d : ℕ) → List Instruction
  each_steps no_patterns v r i d = []
  each_steps (and_pattern p ps) v r i d =
      take_element d r i 0 ∷ (pattern_steps p v d (suc d) ++ each_steps ps (variables_after p v d (suc d)) r (suc i) (suc d + registers_taken p))

-- an instruction that passes so many, where it jumps
abbrev pub with_jump : ℕ → Instruction → Instruction
with_jump n (take_element to from i p) = take_element to from i n
with_jump n (test_kind from k p) = test_kind from k n
with_jump n (test_length from l p) = test_length from l n
with_jump n (test_equal left right p) = test_equal left right n
with_jump n i = i

-- the steps in front of the code, each jumping to where f instructions are left
abbrev pub in_front : ℕ → List Instruction → List Instruction → List Instruction
in_front f [] k = k
in_front f (i ∷ is) k = with_jump (length (in_front f is k) - f) i ∷ in_front f is k
