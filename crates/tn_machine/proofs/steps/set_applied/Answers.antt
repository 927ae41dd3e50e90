use Rattle.std.proofs.Common.{sym, subst, None, option_map}
use Rattle.def_machine.specs.Machine.{set_value, set_register}
use Rattle.tn_code.specs.Views.{on_fault_seen}
use Rattle.tn_guard.specs.Views.{value_seen}
use Rattle.tn_guard.proofs.Views.{value_seen_word}
use Rattle.tn_machine.specs.Steps.{Leads}
use Rattle.tn_machine.specs.Views.{registers_seen}
use Rattle.tn_machine.proofs.steps.set_applied.Goals as goal

pub returns-in-Some-default : goal.returns-in-Some-default
returns-in-Some-default g c = λ es.
    subst (λ v. Leads (set_value c.args.to (on_fault_seen c.args.on_fault) (option_map value_seen v) (registers_seen c.args.registers.now) es) c.args.place c.set.result (registers_seen c.set.new.registers)) (sym c.in-Some-default.is-0) (c.set.ensures es)

pub returns-in-None-Exit : goal.returns-in-None-Exit
returns-in-None-Exit g c = λ es.
    let next = c.set-in-None-Exit.result in
    let new = registers_seen c.set-in-None-Exit.new.registers in
    let old = registers_seen c.args.registers.now in
    subst (λ v. Leads (set_value c.args.to (on_fault_seen c.args.on_fault) (option_map value_seen v) old es) c.args.place next new) (sym c.in-None-Exit.is-0)
    (subst (λ f. Leads (set_value c.args.to (on_fault_seen f) None old es) c.args.place next new) (sym c.in-None-Exit.is-1)
    (subst (λ t. Leads (set_register c.args.to t old es) c.args.place next new) (value_seen_word _ _) (c.set-in-None-Exit.ensures es)))
