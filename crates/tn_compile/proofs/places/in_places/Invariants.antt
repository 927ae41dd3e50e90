use Rattle.std.proofs.Common.{◌≡◌, ◌+◌, ◌++◌, length}
use Rattle.def_machine.specs.Compilation.{code_from}
use Rattle.tn_code.specs.Views.{instructions_of}
use Rattle.tn_compile.specs.Places.{JumpsInside}
use Rattle.tn_compile.specs.Views.{code_left}
use Rattle.tn_compile.proofs.places.in_places.Given as goal

abbrev pub invariant-loop-instr : goal.invariant-loop-instr
invariant-loop-instr g l = record {
  inside : JumpsInside (code_left l.code);
  many : length l.items.items + length l.code.items ≡ length l.initial.code.items;
  seen : instructions_of l.items.items ++ code_from (length l.items.items) (code_left l.code) ≡ code_from 0 (code_left l.initial.code);
}

abbrev pub decreases-loop-instr : goal.decreases-loop-instr
decreases-loop-instr g l = length l.code.items
