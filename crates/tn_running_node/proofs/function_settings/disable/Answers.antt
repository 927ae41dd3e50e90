use Rattle.std.proofs.Common.{arith}
use Rattle.tn_flags.specs.Views.{command_of}
use Rattle.tn_running_node.specs.Replies.{visible_of}
use Rattle.tn_running_node.proofs.FunctionDisables.{one_disabled}
use Rattle.tn_running_node.proofs.function_settings.disable.Goals as goal

pub returns : goal.returns
returns g c =
    let f = c.args.function.now in
    let fits = f.fits in
    one_disabled c.args.session.now c.accept_command.new.session (command_of c.in_ok-command.command) c.args.local (visible_of f) c.in_ok-command.ensures (omega (arith, fits)) c.in_ok-accept_command.ensures
