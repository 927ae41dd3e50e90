use Rattle.std.proofs.Common.{◌∙◌, Some, None, sym, ap}
use Rattle.tn_flags.specs.Views.{command_of}
use Rattle.tn_session.specs.Looks.{look_seen}
use Rattle.tn_command_reason.specs.CommandReasons.{command_reason_seen, command_reasons_seen}
use Rattle.tn_command_reason.specs.HeldTraps.{spec_trap_seen, spec_traps_seen}
use Rattle.tn_command_reason.proofs.CommandReasons.{none_where, failure_first, trap_next}
use Rattle.tn_command_reason.proofs.command_reasons.live_reason.Goals as goal

pub returns-in-Some : goal.returns-in-Some
returns-in-Some g c = λ o fs.
    failure_first o (look_seen c.args.look.now) (command_of c.args.command.now) (command_reasons_seen c.in_ok-why.field-0) (c.in_ok-why.ensures o fs) (command_reason_seen c.in-Some.why)
    (sym (ap command_reasons_seen c.in-Some.is))

pub returns-in-Some-2 : goal.returns-in-Some-2
returns-in-Some-2 g c = λ o fs.
    trap_next o (look_seen c.args.look.now) (command_of c.args.command.now) (command_reasons_seen c.in_ok-why.field-0) (c.in_ok-why.ensures o fs) (Some (spec_trap_seen c.in-Some-2.trap))
    (ap command_reasons_seen (none_where c.in_ok-why.field-0 c.in_default.not-Some)) (sym (ap spec_traps_seen c.in-Some-2.is) ∙ c.in_ok-trap.ensures o fs)

pub returns-in-None : goal.returns-in-None
returns-in-None g c = λ o fs.
    trap_next o (look_seen c.args.look.now) (command_of c.args.command.now) (command_reasons_seen c.in_ok-why.field-0) (c.in_ok-why.ensures o fs) None
    (ap command_reasons_seen (none_where c.in_ok-why.field-0 c.in_default.not-Some)) (sym (ap spec_traps_seen c.in-None.is) ∙ c.in_ok-trap.ensures o fs)
