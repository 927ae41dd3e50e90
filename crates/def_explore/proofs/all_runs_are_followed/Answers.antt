use Rattle.def_explore.proofs.AllRuns.{all_are_sound, all_are_complete, all_are_shortest}
use Rattle.def_explore.proofs.all_runs_are_followed.Goals as goal

pub returns-clause-sound : goal.returns-clause-sound
returns-clause-sound c = all_are_sound

pub returns-clause-complete : goal.returns-clause-complete
returns-clause-complete c = all_are_complete

pub returns-clause-shortest : goal.returns-clause-shortest
returns-clause-shortest c = all_are_shortest
