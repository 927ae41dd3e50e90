use Rattle.tn_flags.specs.Views.{command_of}
use Rattle.tn_term.specs.Views.{tree_of}
use Rattle.tn_running_node.proofs.CommandsThere.{by_model}
use Rattle.tn_running_node.proofs.function_settings.model_command.Goals as goal

pub returns : goal.returns
returns g c = λ o v at same. by_model c.args.session.now c.command.new.self (command_of c.args.command.now) (tree_of c.in_ok-command.field-0) c.in_ok-command.ensures.done o v at same
