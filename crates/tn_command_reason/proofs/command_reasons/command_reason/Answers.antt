use Rattle.std.proofs.Common.{◌∙◌, sym, ap}
use Rattle.std.specs.Option.{option_map}
use Rattle.tn_flags.specs.Views.{command_of}
use Rattle.tn_session.specs.Looks.{look_seen}
use Rattle.tn_command_reason.proofs.CommandReasons.{look_is, of_live}
use Rattle.tn_command_reason.proofs.command_reasons.command_reason.Goals as goal

pub returns-in_ok-live_reason : goal.returns-in_ok-live_reason
returns-in_ok-live_reason g c = λ o fs living s is.
    let l = look_seen c.in-Some-look.look in
    let same = look_is c.args.session.now c.in-Some.session o.functions living s l c.in-Some.is is (sym (ap (option_map look_seen) c.in-Some-look.is) ∙ c.look.ensures) in
    c.in_ok-live_reason.ensures o fs ∙ of_live o s l (command_of c.args.command.now) same (sym c.is_live.ensures ∙ c.if-is_live.true)
