-- How many instructions an instruction passes, before it has its place.
use Rattle.std.specs.Prelude.{ℕ, ◌<◌, List, [], ◌∷◌, length}
use Rattle.std.specs.Bool.{⊤}
use Rattle.def_machine.specs.Instructions.{OnFault, goes_on_at, gives_exit, Instruction, take_element, take_rest, test_kind, test_length, test_equal, jump, apply_function, change_flags}

-- after a fault
abbrev pub fault_passed : OnFault → ℕ
fault_passed (goes_on_at n) = n
fault_passed gives_exit = 0

-- where it jumps; 0 where it never does
abbrev pub jump_place : Instruction → ℕ
jump_place (take_element to from i n) = n
jump_place (take_rest to from n) = n
jump_place (test_kind from k n) = n
jump_place (test_length from l n) = n
jump_place (test_equal left right n) = n
jump_place (jump n) = n
jump_place (apply_function f to rs fault) = fault_passed fault
jump_place (change_flags to p off on fault) = fault_passed fault
jump_place _ = 0

-- each passes fewer instructions than are left after it, but for the one at the end
abbrev pub JumpsInside : List Instruction → Type 0
JumpsInside [] = ⊤
JumpsInside (i ∷ rest) = (jump_place i < length (i ∷ rest)) × JumpsInside rest
