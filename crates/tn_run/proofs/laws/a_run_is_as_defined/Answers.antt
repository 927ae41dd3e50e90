use Rattle.tn_run.proofs.Answers.{run_is_as_defined, moves_run_is_as_defined, round_is_as_defined, control_first_is_as_defined, workers_run_as_defined}
use Rattle.tn_run.proofs.laws.a_run_is_as_defined.Goals as goal

pub returns : goal.returns
returns c = record {
  picks = run_is_as_defined;
  moves = moves_run_is_as_defined;
  round = round_is_as_defined;
  control_first = control_first_is_as_defined;
  workers = workers_run_as_defined;
}
