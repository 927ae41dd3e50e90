-- The code of a clause, put together from its parts.
use Rattle.std.proofs.Common.{◌≡◌, ℕ, suc, ◌+◌, List, [], ◌∷◌, length, ap, ◌∙◌, arith}
use Rattle.def_spec.specs.Expressions.{Dialect, in_condition, in_body}
use Rattle.def_spec.specs.Outcome.{Clause}
use Rattle.def_machine.specs.Instructions.{Instruction, load_list, end_with_match}
use Rattle.def_machine.specs.Compilation.{VariableRegisters, registers_taken, variables_after, pattern_code, exprs_code, while_true_code, clause_code}
use Rattle.tn_compile.specs.Heads.{pattern_steps, in_front}
use Rattle.tn_compile.proofs.HeadCode.{pattern-front}

pub clause-is : (dialect : Dialect) (k : Clause) (f d : ℕ) (v : VariableRegisters) (steps rest a b e h new : List Instruction) → f ≡ length rest → d ≡ 1 + registers_taken k.head → v ≡ variables_after k.head [] 0 1 → steps ≡ pattern_steps k.head [] 0 1 → a ≡ end_with_match ∷ rest → b ≡ exprs_code dialect in_body f v k.body d a → e ≡ while_true_code dialect in_condition f v k.conditions d f b → h ≡ in_front f steps e → new ≡ load_list 0 ∷ h → new ≡ clause_code dialect k rest
clause-is dialect k f d v steps rest a b e h new left free known made first second third fourth fifth =
    let one : d ≡ suc (registers_taken k.head) = omega (arith, free) in
    let whole : ℕ → ℕ → VariableRegisters → List Instruction = λ m q w. pattern_code k.head [] 0 1 m (while_true_code dialect in_condition m w k.conditions q m (exprs_code dialect in_body m w k.body q (end_with_match ∷ rest))) in
    fifth
    ∙ ap (λ x. load_list 0 ∷ x)
    (fourth ∙ ap (λ x. in_front f x e) made ∙ pattern-front k.head [] 0 1 f e
    ∙ ap (pattern_code k.head [] 0 1 f) (third ∙ ap (while_true_code dialect in_condition f v k.conditions d f) (second ∙ ap (exprs_code dialect in_body f v k.body d) first))
    ∙ ap (λ m. whole m d v) left ∙ ap (λ q. whole (length rest) q v) one ∙ ap (whole (length rest) (suc (registers_taken k.head))) known)
