use Rattle.tn_program.specs.Views.{program_of}
use Rattle.tn_trace.proofs.RunSteps.{first_run}
use Rattle.tn_trace.proofs.run.Run.new.Goals as goal

pub returns-clause-start : goal.returns-clause-start
returns-clause-start g c = λ seen. first_run g.O.Observer.sees (program_of c.args.program.now) c.args.limit _ c.in_ok-new.ensures seen c.new-2.ensures.items c.most_moves.ensures
