use Rattle.tn_flags.specs.Views.{command_of}
use Rattle.tn_program.specs.Views.{program_of}
use Rattle.tn_trace.proofs.Starts.{number_found, number_missing}
use Rattle.tn_trace.proofs.functions.command_at.Goals as goal

pub returns-in-Some : goal.returns-in-Some
returns-in-Some g c = number_found command_of c.commands.result.now (program_of c.args.program.now).commands c.args.number c.in-Some.command.now c.if-number-eq0.false c.commands.ensures c.in-Some.ensures.lookup.3.0 c.in-Some.ensures.lookup.1

pub returns-in-None : goal.returns-in-None
returns-in-None g c = number_missing command_of c.commands.result.now (program_of c.args.program.now).commands c.args.number c.if-number-eq0.false c.commands.ensures c.in-None.ensures.lookup.3
