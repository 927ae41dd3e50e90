use Rattle.def_run.proofs.Rounds.{round_moves, round_is_short, round_is_in_order, round_rests}
use Rattle.def_run.proofs.a_round_goes_on_until_nothing_moves.Goals as goal

pub returns : goal.returns
returns c = record { moves = round_moves; short = round_is_short; in_order = round_is_in_order; rests = round_rests }
