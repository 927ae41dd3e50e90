use Rattle.def_state.proofs.Journals.{of_the_journal, later_picks, last_state}
use Rattle.def_state.proofs.a_state_goes_by_the_journal.Goals as goal

pub returns : goal.returns
returns c = record { journal = of_the_journal; later = later_picks; last = last_state }
