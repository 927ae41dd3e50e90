use Rattle.def_explore.proofs.Words.{no_true_word_meets, word_meets}
use Rattle.def_explore.proofs.a_demand_is_met_or_refuted.Goals as goal

pub returns : goal.returns
returns c = record { refuted = no_true_word_meets; met = word_meets }
