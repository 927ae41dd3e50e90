use Rattle.def_run.proofs.Outputs.{picks_are_one, output_is_one, round_output_is_one}
use Rattle.def_run.proofs.every_run_has_one_output.Goals as goal

pub returns : goal.returns
returns c = record { picks = picks_are_one; output = output_is_one; round = round_output_is_one }
