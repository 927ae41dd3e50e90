use Rattle.std.specs.Process.{exit_status}
use Rattle.tn_command.specs.Flaws.{script_bytes}
use Rattle.tn_command.proofs.StatusLemmas.{fault_stays}
use Rattle.tn_command.proofs.jobs.print_end.Goals as goal

pub returns : goal.returns
returns g c =
    fault_stays c.args.strict (g.J.Command.flaw c.args.job.now) c.args.end.answer c.in-Err.fault (script_bytes c.args.script)
    (exit_status c.args.end.status) c.in-Err.is
