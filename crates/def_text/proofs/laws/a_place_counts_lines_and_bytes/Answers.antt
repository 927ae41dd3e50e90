use Rattle.def_text.proofs.Columns.{some, one}
use Rattle.def_text.proofs.laws.a_place_counts_lines_and_bytes.Goals as goal

pub returns : goal.returns
returns c = record { some = some; one = one }
