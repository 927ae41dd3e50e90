use Rattle.def_fun.specs.Calls.{fun_actions}
use Rattle.tn_spec.specs.Views.{dialect_of}
use Rattle.tn_fun_text.proofs.CallNames.{no_action_named}
use Rattle.tn_fun_text.proofs.calls.is_action.Goals as goal

pub returns-in_default : goal.returns-in_default
returns-in_default c =
    let d = c.in_default in
    no_action_named (dialect_of c.args.dialect) fun_actions c.args.name.now c.args.count (d.not-message, (d.not-return_trace, (d.not-exception_trace, (d.not-silent, (d.not-enable_trace, (d.not-enable_trace, (d.not-disable_trace, (d.not-disable_trace, (d.not-trace, (d.not-trace, (d.not-caller, (tt))))))))))))
