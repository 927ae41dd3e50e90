use Rattle.complete_code.proofs.Runs.{run_alike}
use Rattle.complete_code.proofs.execute.execute.Goals as goal

pub returns : goal.returns
returns g c = run_alike _ _ c.args.one.now c.args.other.now _ _ c.requires.codes c.requires.contexts c.execute.ensures.end c.execute-2.ensures.end
