use Rattle.def_explore.proofs.Words.{word_is_one, entries_show_all, word_of_entries_is_true}
use Rattle.def_explore.proofs.a_pattern_has_one_word.Goals as goal

pub returns : goal.returns
returns c = record { one = word_is_one; all = entries_show_all; by_entries = word_of_entries_is_true }
