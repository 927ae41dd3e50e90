use Rattle.std.proofs.Common.{ap, ◌∙◌}
use Rattle.std.specs.Option.{option_map}
use Rattle.def_script.specs.Program.{set_receive}
use Rattle.tn_flags.specs.Views.{command_of}
use Rattle.tn_script.proofs.commands.recv_command.Goals as goal

pub returns-in_err-session : goal.returns-in_err-session
returns-in_err-session g c = ap (option_map command_of) c.from_residual.ensures ∙ c.in_err-session.ensures set_receive

pub returns : goal.returns
returns g c = c.in_ok-session.ensures set_receive
