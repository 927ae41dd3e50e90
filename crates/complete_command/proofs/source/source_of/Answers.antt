use Rattle.complete_command.proofs.SameWords.{one_source}
use Rattle.complete_command.proofs.source.source_of.Goals as goal

pub returns : goal.returns
returns c = one_source c.args.one c.args.other _ _ c.requires c.source_of-first.ensures c.source_of-second.ensures
