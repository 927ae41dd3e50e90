use Rattle.def_picture.proofs.Columns.{frame_in_column, columns_side_by_side}
use Rattle.def_picture.proofs.a_frame_is_in_its_column.Goals as goal

pub returns : goal.returns
returns c = record { frame = frame_in_column; columns = columns_side_by_side }
