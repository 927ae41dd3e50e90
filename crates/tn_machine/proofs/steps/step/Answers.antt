use Rattle.std.proofs.Common.{Some, refl, sym, ap, ◌∙◌, map, ◌==◌}
use Rattle.def_machine.specs.Machine.{does, end_outcome, set_register, going_to, terms_in}
use Rattle.tn_action.specs.Views.{context_seen, effect_seen}
use Rattle.tn_code.specs.Views.{instruction_of, shape_kind_seen, on_fault_seen}
use Rattle.tn_guard.specs.Views.{value_seen}
use Rattle.tn_guard.proofs.Views.{value_seen_lent, value_seen_pid}
use Rattle.tn_spec.specs.Views.{dialect_of, action_of, func_of}
use Rattle.tn_machine.specs.Views.{registers_seen}
use Rattle.tn_machine.proofs.Moves.{sets-so, leaves-so, faults-so, goes-so, element-does, rest-does, kind-does, length-does, equal-does, build-does, apply-does, perform-does, change-does}
use Rattle.tn_machine.proofs.steps.step.Goals as goal

pub returns-in-LoadConstant : goal.returns-in-LoadConstant
returns-in-LoadConstant g c =
    sets-so c.args.scene.now c.args.instr.now c.args.place c.args.registers.now c.set.new.registers c.args.effects.now c.set.result c.args.effects.now c.in-LoadConstant.to _ c.set.ensures _ (ap instruction_of c.in-LoadConstant.is)
    (ap (λ t. Some (set_register c.in-LoadConstant.to t (registers_seen c.args.registers.now) (map effect_seen c.args.effects.now.items))) (sym (value_seen_lent _)))

pub returns-in-LoadList : goal.returns-in-LoadList
returns-in-LoadList g c =
    sets-so c.args.scene.now c.args.instr.now c.args.place c.args.registers.now c.set-in-LoadList.new.registers c.args.effects.now c.set-in-LoadList.result c.args.effects.now c.in-LoadList.to _ c.set-in-LoadList.ensures _ (ap instruction_of c.in-LoadList.is)
    (ap (λ t. Some (set_register c.in-LoadList.to t (registers_seen c.args.registers.now) (map effect_seen c.args.effects.now.items))) (sym c.list.ensures))

pub returns-in-LoadOwnPid : goal.returns-in-LoadOwnPid
returns-in-LoadOwnPid g c =
    sets-so c.args.scene.now c.args.instr.now c.args.place c.args.registers.now c.set-in-LoadOwnPid.new.registers c.args.effects.now c.set-in-LoadOwnPid.result c.args.effects.now c.in-LoadOwnPid.to _ c.set-in-LoadOwnPid.ensures _ (ap instruction_of c.in-LoadOwnPid.is)
    (ap (λ t. Some (set_register c.in-LoadOwnPid.to t (registers_seen c.args.registers.now) (map effect_seen c.args.effects.now.items))) (sym (value_seen_pid _ _)))

pub returns-in_ok-caller-in-LoadCaller : goal.returns-in_ok-caller-in-LoadCaller
returns-in_ok-caller-in-LoadCaller g c =
    sets-so c.args.scene.now c.args.instr.now c.args.place c.args.registers.now c.set-in-LoadCaller.new.registers c.args.effects.now c.set-in-LoadCaller.result c.args.effects.now c.in-LoadCaller.to _ c.set-in-LoadCaller.ensures _ (ap instruction_of c.in-LoadCaller.is)
    (ap (λ t. Some (set_register c.in-LoadCaller.to t (registers_seen c.args.registers.now) (map effect_seen c.args.effects.now.items))) (sym c.in_ok-caller-in-LoadCaller.ensures))

pub returns-in-TakeElement : goal.returns-in-TakeElement
returns-in-TakeElement g c =
    leaves-so c.args.scene.now c.args.instr.now c.args.place c.args.registers.now c.set_or_leave.new.registers c.args.effects.now c.set_or_leave.result c.in-TakeElement.to c.in-TakeElement.away _ c.set_or_leave.ensures _ (ap instruction_of c.in-TakeElement.is)
    (element-does (context_seen c.args.scene.now.context.now) (registers_seen c.args.registers.now) (map effect_seen c.args.effects.now.items) c.in-TakeElement.to c.in-TakeElement.from c.in-TakeElement.index c.in-TakeElement.away _ _ c.value_in.ensures c.element-taken.ensures)

pub returns-in-TakeRest : goal.returns-in-TakeRest
returns-in-TakeRest g c =
    leaves-so c.args.scene.now c.args.instr.now c.args.place c.args.registers.now c.set_or_leave-in-TakeRest.new.registers c.args.effects.now c.set_or_leave-in-TakeRest.result c.in-TakeRest.to c.in-TakeRest.away _ c.set_or_leave-in-TakeRest.ensures _ (ap instruction_of c.in-TakeRest.is)
    (rest-does (context_seen c.args.scene.now.context.now) (registers_seen c.args.registers.now) (map effect_seen c.args.effects.now.items) c.in-TakeRest.to c.in-TakeRest.from c.in-TakeRest.away _ _ c.value_in-in-TakeRest.ensures c.rest-taken.ensures)

pub returns-in-TestKind : goal.returns-in-TestKind
returns-in-TestKind g c =
    goes-so c.args.scene.now c.args.instr.now c.args.place c.args.registers.now c.args.effects.now c.go_on_if.result _ c.in-TestKind.away c.go_on_if.ensures _ (ap instruction_of c.in-TestKind.is)
    (kind-does (context_seen c.args.scene.now.context.now) (registers_seen c.args.registers.now) (map effect_seen c.args.effects.now.items) c.in-TestKind.from c.in-TestKind.away (shape_kind_seen c.in-TestKind.kind) _ _ c.value_in-in-TestKind.ensures c.is_of_kind.ensures)

pub returns-in-TestLength : goal.returns-in-TestLength
returns-in-TestLength g c =
    goes-so c.args.scene.now c.args.instr.now c.args.place c.args.registers.now c.args.effects.now c.go_on_if-in-TestLength.result _ c.in-TestLength.away c.go_on_if-in-TestLength.ensures _ (ap instruction_of c.in-TestLength.is)
    (length-does (context_seen c.args.scene.now.context.now) (registers_seen c.args.registers.now) (map effect_seen c.args.effects.now.items) c.in-TestLength.from c.in-TestLength.length c.in-TestLength.away _ _ c.value_in-in-TestLength.ensures (ap (λ m. m == c.in-TestLength.length) c.count.ensures))

pub returns-in-TestEqual : goal.returns-in-TestEqual
returns-in-TestEqual g c =
    goes-so c.args.scene.now c.args.instr.now c.args.place c.args.registers.now c.args.effects.now c.go_on_if-in-TestEqual.result _ c.in-TestEqual.away c.go_on_if-in-TestEqual.ensures _ (ap instruction_of c.in-TestEqual.is)
    (equal-does (context_seen c.args.scene.now.context.now) (registers_seen c.args.registers.now) (map effect_seen c.args.effects.now.items) c.in-TestEqual.left c.in-TestEqual.right c.in-TestEqual.away _ _ _ c.value_in-in-TestEqual.ensures c.value_in-in-TestEqual-2.ensures c.same-same.ensures)

pub returns-in-Jump : goal.returns-in-Jump
returns-in-Jump g c =
    let old = registers_seen c.args.registers.now in
    let effects = map effect_seen c.args.effects.now.items in
    (going_to c.in-Jump.away old effects, ap (λ i. does (context_seen c.args.scene.now.context.now) (instruction_of i) old effects) c.in-Jump.is, refl)

pub returns-in_ok-built-in-Build : goal.returns-in_ok-built-in-Build
returns-in_ok-built-in-Build g c =
    let made = c.in_ok-built-in-Build.ensures in
    sets-so c.args.scene.now c.args.instr.now c.args.place c.args.registers.now c.set-in-Build.new.registers c.args.effects.now c.set-in-Build.result c.args.effects.now c.in-Build.to _ c.set-in-Build.ensures _ (ap instruction_of c.in-Build.is)
    (build-does (context_seen c.args.scene.now.context.now) (registers_seen c.args.registers.now) (map effect_seen c.args.effects.now.items) (shape_kind_seen c.in-Build.kind) c.in-Build.to c.in-Build.from.items (map value_seen made.0) _ (ap (terms_in (registers_seen c.args.registers.now)) (sym c.as_slice.ensures.value) ∙ made.1) made.2)

pub returns-in_ok-value-in-Apply : goal.returns-in_ok-value-in-Apply
returns-in_ok-value-in-Apply g c =
    let made = c.in_ok-value-in-Apply.ensures in
    faults-so c.args.scene.now c.args.instr.now c.args.place c.args.registers.now c.set_applied.new.registers c.args.effects.now c.set_applied.result c.args.effects.now c.in-Apply.to c.in-Apply.on_fault _ c.set_applied.ensures _ (ap instruction_of c.in-Apply.is)
    (apply-does (context_seen c.args.scene.now.context.now) (registers_seen c.args.registers.now) (map effect_seen c.args.effects.now.items) (func_of c.in-Apply.func) c.in-Apply.to c.in-Apply.from.items (on_fault_seen c.in-Apply.on_fault) (map value_seen made.0) _ (ap (terms_in (registers_seen c.args.registers.now)) (sym c.as_slice-in-Apply.ensures.value) ∙ made.1) made.2)

pub returns-in_ok-value-in-Perform : goal.returns-in_ok-value-in-Perform
returns-in_ok-value-in-Perform g c =
    let made = c.in_ok-value-in-Perform.ensures in
    sets-so c.args.scene.now c.args.instr.now c.args.place c.args.registers.now c.set-in-Perform.new.registers c.args.effects.now c.set-in-Perform.result c.performed_on.new.effects c.in-Perform.to _ c.set-in-Perform.ensures _ (ap instruction_of c.in-Perform.is)
    (perform-does (context_seen c.args.scene.now.context.now) (registers_seen c.args.registers.now) (map effect_seen c.args.effects.now.items) (dialect_of c.in-Perform.dialect) (action_of c.in-Perform.action) c.in-Perform.to c.in-Perform.from.items (map value_seen made.0) _ (ap (terms_in (registers_seen c.args.registers.now)) (sym c.as_slice-in-Perform.ensures.value) ∙ made.1) (made.2 c.in-Perform.to (registers_seen c.args.registers.now)))

pub returns-in_ok-value-in-ChangeFlags : goal.returns-in_ok-value-in-ChangeFlags
returns-in_ok-value-in-ChangeFlags g c =
    faults-so c.args.scene.now c.args.instr.now c.args.place c.args.registers.now c.set_applied-in-ChangeFlags.new.registers c.args.effects.now c.set_applied-in-ChangeFlags.result c.flags_changed.new.effects c.in-ChangeFlags.to c.in-ChangeFlags.on_fault _ c.set_applied-in-ChangeFlags.ensures _ (ap instruction_of c.in-ChangeFlags.is)
    (change-does (context_seen c.args.scene.now.context.now) (registers_seen c.args.registers.now) (map effect_seen c.args.effects.now.items) c.in-ChangeFlags.to c.in-ChangeFlags.process c.in-ChangeFlags.off c.in-ChangeFlags.on (on_fault_seen c.in-ChangeFlags.on_fault) _ _ _ _ c.value_in-process.ensures c.value_in-off.ensures c.value_in-on.ensures
    (c.in_ok-value-in-ChangeFlags.ensures c.in-ChangeFlags.to c.in-ChangeFlags.on_fault (registers_seen c.args.registers.now)))

pub returns-in-EndMatch : goal.returns-in-EndMatch
returns-in-EndMatch g c = ap (λ i. end_outcome (instruction_of i) (map effect_seen c.args.effects.now.items)) c.in-EndMatch.is
