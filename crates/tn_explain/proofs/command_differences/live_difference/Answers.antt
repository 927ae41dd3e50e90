use Rattle.std.proofs.Common.{◌∙◌, sym, ap}
use Rattle.def_explain.specs.CommandDifferences.{live_difference}
use Rattle.tn_flags.specs.Views.{command_of}
use Rattle.tn_session.specs.Looks.{look_seen}
use Rattle.tn_explain.proofs.command_differences.live_difference.Goals as goal

pub returns-in_ok-function_difference-in-Function : goal.returns-in_ok-function_difference-in-Function
returns-in_ok-function_difference-in-Function g c = λ o fs.
    c.in_ok-function_difference-in-Function.ensures o fs ∙ sym (ap (λ k. live_difference o (look_seen c.args.look.now) (command_of k)) c.in-Function.is)
