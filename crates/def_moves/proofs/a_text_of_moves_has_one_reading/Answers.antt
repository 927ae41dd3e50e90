use Rattle.def_moves.proofs.Texts.{moves_are_one, picks_of_moves_are_one, moves_fault_is_alone, moves_fault_is_one}
use Rattle.def_moves.proofs.a_text_of_moves_has_one_reading.Goals as goal

pub returns : goal.returns
returns c = record { one = moves_are_one; picks = picks_of_moves_are_one; alone = moves_fault_is_alone; place = moves_fault_is_one }
