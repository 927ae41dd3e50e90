-- The steps of a head, put in front of the code, are its code.
use Rattle.std.proofs.Common.{◌≡◌, ℕ, suc, ◌+◌, ◌-◌, List, [], ◌∷◌, ◌++◌, length, Option, Some, None, refl, ap, ◌∙◌, nat_cmp, sym}
use Rattle.std.specs.FinMap.{find}
use Rattle.def_spec.specs.Matching.{Pattern, Patterns, variable, anything, only_term, in_tuple, in_list, no_patterns, and_pattern}
use Rattle.def_machine.specs.Instructions.{kind_tuple, kind_list, Instruction, take_element}
use Rattle.def_machine.specs.Compilation.{VariableRegisters, jump_by, registers_taken, variables_after, variable_code, number_of_patterns, shape_code, pattern_code, each_pattern_code}
use Rattle.tn_compile.specs.Heads.{variable_steps, pattern_steps, each_steps, with_jump, in_front}

pub front-append : (f : ℕ) (a b k : List Instruction) → in_front f (a ++ b) k ≡ in_front f a (in_front f b k)
front-append f [] b k = refl
front-append f (i ∷ a) b k = ap (λ x. with_jump (length x - f) i ∷ x) (front-append f a b k)

variable-front : (x : Option ℕ) (r f : ℕ) (k : List Instruction) → in_front f (variable_steps x r) k ≡ variable_code x r f k
variable-front None r f k = refl
variable-front (Some q) r f k = refl

mutual
  pub pattern-front : (p : Pattern) (v : VariableRegisters) (r d f : ℕ) (k : List Instruction) → in_front f (pattern_steps p v r d) k ≡ pattern_code p v r d f k
  pattern-front (variable n) v r d f k = variable-front (find nat_cmp n v) r f k
  pattern-front anything v r d f k = refl
  pattern-front (only_term t) v r d f k = refl
  pattern-front (in_tuple ps) v r d f k = ap (shape_code kind_tuple (number_of_patterns ps) r f) (each-front ps v r 0 d f k)
  pattern-front (in_list ps) v r d f k = ap (shape_code kind_list (number_of_patterns ps) r f) (each-front ps v r 0 d f k)

  pub each-front : (ps : Patterns) (v : VariableRegisters) (r i d f : ℕ) (k : List Instruction) → in_front f (each_steps ps v r i d) k ≡ each_pattern_code ps v r i d f k
  each-front no_patterns v r i d f k = refl
  each-front (and_pattern p ps) v r i d f k =
      ap (jump_by (take_element d r i) f)
      (front-append f (pattern_steps p v d (suc d)) (each_steps ps (variables_after p v d (suc d)) r (suc i) (suc d + registers_taken p)) k
      ∙ ap (in_front f (pattern_steps p v d (suc d))) (each-front ps (variables_after p v d (suc d)) r (suc i) (suc d + registers_taken p) f k)
      ∙ pattern-front p v d (suc d) f (each_pattern_code ps (variables_after p v d (suc d)) r (suc i) (suc d + registers_taken p) f k))

-- the last step goes in front first
pub last-front : (f n : ℕ) (steps before k new total : List Instruction) (i j : Instruction) → steps ≡ before ++ i ∷ [] → n ≡ length k - f → j ≡ with_jump n i → new ≡ j ∷ k → in_front f steps k ≡ total → in_front f before new ≡ total
last-front f n steps before k new total i j is many at after h =
    ap (in_front f before) (after ∙ ap (λ x. x ∷ k) (at ∙ ap (λ q. with_jump q i) many))
    ∙ sym (front-append f before (i ∷ []) k) ∙ sym (ap (λ xs. in_front f xs k) is) ∙ h
