use Rattle.complete_workers.proofs.SamePreparations.{same_prepared_failed, same_prepared_left, same_prepared_outcome, same_prepared_output}
use Rattle.complete_workers.proofs.live.prepare_live.Goals as goal

pub returns-clause-outcome : goal.returns-clause-outcome
returns-clause-outcome g c = same_prepared_outcome _ _ _ _ _ c.prepare_live-first.result c.prepare_live-second.result c.requires.reported c.prepare_live-first.ensures c.prepare_live-second.ensures

pub returns-clause-output : goal.returns-clause-output
returns-clause-output g c = same_prepared_output _ _ _ _ _ c.prepare_live-first.result c.prepare_live-second.result c.requires.reported c.prepare_live-first.ensures c.prepare_live-second.ensures

pub returns-clause-left : goal.returns-clause-left
returns-clause-left g c = same_prepared_left _ _ _ _ _ c.prepare_live-first.result c.prepare_live-second.result c.prepare_live-first.ensures c.prepare_live-second.ensures c.requires.reported

pub returns-clause-reader : goal.returns-clause-reader
returns-clause-reader g c = same_prepared_failed _ _ _ _ _ c.prepare_live-first.result c.prepare_live-second.result c.prepare_live-first.ensures c.prepare_live-second.ensures c.requires.failed
