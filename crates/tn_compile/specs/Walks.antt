-- What a walk over a head adds to its steps and to its variables.
use Rattle.std.specs.Prelude.{◌≡◌, ℕ, ◌+◌, ◌++◌, List, None}
use Rattle.def_spec.specs.Matching.{Pattern, Patterns}
use Rattle.def_machine.specs.Instructions.{Instruction}
use Rattle.def_machine.specs.Compilation.{VariableRegisters, registers_taken, registers_taken_each, variable_met, variables_after, variables_after_each}
use Rattle.tn_code.specs.Views.{instructions_of}
use Rattle.tn_compile.specs.Heads.{pattern_steps, each_steps}
use Rattle.tn_compile.specs.Views.{variables_seen}
use Rattle.tn_compile.specs.declared.emit_context.VariableRegister.{VariableRegister}
use Rattle.tn_compile.specs.declared.heads.HeadSteps.{HeadSteps}

abbrev pub steps_seen : {A : Type 0} → HeadSteps A → List Instruction
steps_seen h = instructions_of h.steps.items

abbrev pub walk_registers : {A : Type 0} → HeadSteps A → VariableRegisters
walk_registers h = variables_seen h.variables.items

-- a pattern against a register
abbrev pub AddsSteps : {A : Type 0} → Pattern → ℕ → HeadSteps A → HeadSteps A → Type 0
AddsSteps p r old new = steps_seen new ≡ steps_seen old ++ pattern_steps p (walk_registers old) r old.free

abbrev pub AddsVariables : {A : Type 0} → Pattern → ℕ → HeadSteps A → HeadSteps A → Type 0
AddsVariables p r old new = walk_registers new ≡ variables_after p (walk_registers old) r old.free

abbrev pub TakesRegisters : {A : Type 0} → Pattern → HeadSteps A → HeadSteps A → Type 0
TakesRegisters p old new = new.free ≡ old.free + registers_taken p

-- each pattern against the elements of a register
abbrev pub AddsEachStep : {A : Type 0} → Patterns → ℕ → HeadSteps A → HeadSteps A → Type 0
AddsEachStep ps r old new = steps_seen new ≡ steps_seen old ++ each_steps ps (walk_registers old) r 0 old.free

abbrev pub AddsEachVariable : {A : Type 0} → Patterns → HeadSteps A → HeadSteps A → Type 0
AddsEachVariable ps old new = walk_registers new ≡ variables_after_each ps (walk_registers old) old.free

abbrev pub TakesRegistersEach : {A : Type 0} → Patterns → HeadSteps A → HeadSteps A → Type 0
TakesRegistersEach ps old new = new.free ≡ old.free + registers_taken_each ps

-- a variable that wasn't there, with its register
abbrev pub AddsVariable : (number register : ℕ) → List VariableRegister → List VariableRegister → Type 0
AddsVariable n r old new = variables_seen new ≡ variable_met n r (variables_seen old) None
