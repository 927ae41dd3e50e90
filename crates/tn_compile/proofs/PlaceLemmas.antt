-- Instructions that get their places, one after another.
use Rattle.std.proofs.Common.{◌≡◌, ℕ, suc, ◌+◌, List, [], ◌∷◌, ◌++◌, sym, ap, ◌∙◌, arith, reverse, append_assoc}
use Rattle.std.proofs.lemmas.List.{reverse-append}
use Rattle.def_machine.specs.Instructions.{Instruction}
use Rattle.def_machine.specs.Compilation.{at_place, code_from}
use Rattle.tn_code.specs.Views.{instruction_of, instructions_of}
use Rattle.tn_code.specs.declared.instr.Instr.{Instr}

pub left-pop : {A : Type 0} (xs ys : List (Instr A)) (x : Instr A) → xs ≡ ys ++ x ∷ [] → instructions_of (reverse xs) ≡ instruction_of x ∷ instructions_of (reverse ys)
left-pop xs ys x e = ap (λ z. instructions_of (reverse z)) e ∙ ap instructions_of (reverse-append ys (x ∷ []))

pub placed-more : (total front left rest : List Instruction) (i j : Instruction) (n m : ℕ) → left ≡ i ∷ rest → j ≡ at_place (suc n) i → m ≡ n + 1 → front ++ code_from n left ≡ total → (front ++ j ∷ []) ++ code_from m rest ≡ total
placed-more total front left rest i j n m is at more h =
    let next : m ≡ suc n = omega (arith, more) in
    append_assoc front (j ∷ []) (code_from m rest)
    ∙ ap (λ ys. front ++ ys) (ap (λ q. j ∷ code_from q rest) next ∙ ap (λ x. x ∷ code_from (suc n) rest) at ∙ sym (ap (code_from n) is))
    ∙ h
