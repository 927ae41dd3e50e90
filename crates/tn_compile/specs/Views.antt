-- What the code of this crate stands for.
use Rattle.std.specs.Prelude.{ℕ, ◌-◌, List, map, reverse}
use Rattle.std.specs.declared.vec.Vec.{Vec}
use Rattle.def_spec.specs.Expressions as ex
use Rattle.def_machine.specs.Instructions as def
use Rattle.def_machine.specs.Compilation.{VariableRegisters}
use Rattle.tn_code.specs.Views.{instructions_of}
use Rattle.tn_code.specs.declared.instr.Instr.{Instr}
use Rattle.tn_compile.specs.declared.emit_context.Position.{Position}
use Rattle.tn_compile.specs.declared.emit_context.Position.TheVariants.{Condition, Body}
use Rattle.tn_compile.specs.declared.emit_context.VariableRegister.{VariableRegister}
use Rattle.tn_compile.specs.declared.emit_context.EmitContext.{EmitContext}

abbrev pub part_of : Position → ex.Position
part_of Condition = ex.in_condition
part_of Body = ex.in_body

abbrev pub variable_seen : VariableRegister → ℕ × ℕ
variable_seen v = (v.number, v.register)

abbrev pub variables_seen : List VariableRegister → VariableRegisters
variables_seen vs = map variable_seen vs

-- the code, which stands from its end to its beginning
abbrev pub code_left : {A : Type 0} → Vec (Instr A) A → List def.Instruction
code_left v = instructions_of (reverse v.items)

-- what follows the fault of a function, in front of so many instructions
abbrev pub fault_in : Position → ℕ → ℕ → def.OnFault
fault_in Condition f n = def.goes_on_at (n - f)
fault_in Body f n = def.gives_exit

abbrev pub fault_emitted : EmitContext → ℕ → def.OnFault
fault_emitted s n = fault_in s.part s.left n
