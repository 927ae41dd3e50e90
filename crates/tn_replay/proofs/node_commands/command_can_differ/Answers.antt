use Rattle.std.proofs.Common.{◌≡◌, IfOk, sym, subst}
use Rattle.def_explain.specs.NodeCommands.{command_can_differ}
use Rattle.tn_flags.specs.Views.{command_of}
use Rattle.tn_replay.proofs.node_commands.command_can_differ.Goals as goal

pub returns-in-Function : goal.returns-in-Function
returns-in-Function g c = subst (λ k. IfOk c.setting_can_differ.result (λ b. b ≡ command_can_differ (command_of k))) (sym c.in-Function.is) c.setting_can_differ.ensures

pub returns-in-Send : goal.returns-in-Send
returns-in-Send g c = subst (λ k. IfOk c.setting_can_differ-in-Send.result (λ b. b ≡ command_can_differ (command_of k))) (sym c.in-Send.is) c.setting_can_differ-in-Send.ensures

pub returns-in-Recv : goal.returns-in-Recv
returns-in-Recv g c = subst (λ k. IfOk c.setting_can_differ-in-Recv.result (λ b. b ≡ command_can_differ (command_of k))) (sym c.in-Recv.is) c.setting_can_differ-in-Recv.ensures
