use Rattle.def_state.proofs.Journals.{by_the_view, isolated}
use Rattle.def_state.proofs.a_session_is_written_by_its_view.Goals as goal

pub returns : goal.returns
returns c = record { view = by_the_view; isolated = isolated }
