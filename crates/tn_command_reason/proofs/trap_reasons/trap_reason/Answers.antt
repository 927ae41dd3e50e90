use Rattle.std.proofs.Common.{◌∙◌, sym, ap}
use Rattle.std.proofs.lemmas.Result.{IfOk-weaker}
use Rattle.def_explain.specs.CommandReasons.{trap_reason}
use Rattle.tn_flags.specs.Views.{command_of}
use Rattle.tn_command_reason.proofs.trap_reasons.trap_reason.Goals as goal

pub returns-in-Function : goal.returns-in-Function
returns-in-Function g c =
    IfOk-weaker c.function_trap.result _ _ (λ t has o fs. has o fs ∙ sym (ap (λ k. trap_reason o (command_of k)) c.in-Function.is)) c.function_trap.ensures

pub returns-in-Send : goal.returns-in-Send
returns-in-Send g c =
    IfOk-weaker c.spec_trap.result _ _ (λ t is o fs. is ∙ sym (ap (λ k. trap_reason o (command_of k)) c.in-Send.is)) c.spec_trap.ensures

pub returns-in-Recv : goal.returns-in-Recv
returns-in-Recv g c =
    IfOk-weaker c.spec_trap-in-Recv.result _ _ (λ t is o fs. is ∙ sym (ap (λ k. trap_reason o (command_of k)) c.in-Recv.is)) c.spec_trap-in-Recv.ensures
