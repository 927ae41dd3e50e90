use Rattle.std.proofs.Common.{◌∙◌, ap, refl}
use Rattle.def_term.specs.Tree.{pid}
use Rattle.def_spec.specs.Expressions as ex
use Rattle.def_spec.specs.Flags.{flag_named}
use Rattle.tn_guard.specs.Views.{value_seen}
use Rattle.tn_action.proofs.actions.change_own.Goals as goal

pub returns : goal.returns
returns g c = c.change_flag.ensures ∙ ap (λ p. ex.change c.args.on p (flag_named (value_seen c.args.flag))) (c.living_pid.ensures (pid c.args.context.now.self_pid) refl)
