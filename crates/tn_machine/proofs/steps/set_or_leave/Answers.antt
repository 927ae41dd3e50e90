use Rattle.std.proofs.Common.{sym, subst, option_map}
use Rattle.def_machine.specs.Machine.{set_term}
use Rattle.tn_guard.specs.Views.{value_seen}
use Rattle.tn_machine.specs.Steps.{Leads}
use Rattle.tn_machine.specs.Views.{registers_seen}
use Rattle.tn_machine.proofs.steps.set_or_leave.Goals as goal

pub returns-in-Some : goal.returns-in-Some
returns-in-Some g c = λ es.
    subst (λ v. Leads (set_term c.args.to c.args.away (option_map value_seen v) (registers_seen c.args.registers.now) es) c.args.place c.set.result (registers_seen c.set.new.registers)) (sym c.in-Some.is) (c.set.ensures es)
