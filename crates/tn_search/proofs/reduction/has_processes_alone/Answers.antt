use Rattle.std.proofs.Common.{◌≡◌, ◌∙◌, true, false, length, sym, ap}
use Rattle.tn_program.specs.Views.{program_of}
use Rattle.tn_node.specs.Nodes.{taken_in}
use Rattle.tn_search.specs.ReadyPicks.{has_command_left}
use Rattle.tn_search.proofs.FirstPicks.{not_true}
use Rattle.tn_search.proofs.reduction.has_processes_alone.Goals as goal

pub returns-then-is_of_processes : goal.returns-then-is_of_processes
returns-then-is_of_processes g c = λ h. record {
  by_process = sym c.is_of_processes.ensures ∙ c.if-is_of_processes.true;
  commands = ap (λ o. has_command_left (length (program_of c.args.program.now).commands) (taken_in o)) (sym c.node.ensures) ∙ sym c.has_command_left.ensures ∙ not_true c.has_command_left.result h;
}

pub returns-else-is_of_processes : goal.returns-else-is_of_processes
returns-else-is_of_processes g c = λ h. absurd (let e : false ≡ true = sym c.if-is_of_processes.false ∙ h in cc)
