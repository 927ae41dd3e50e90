use Rattle.def_random_run.proofs.RandomEntries.{random_entries_are_sound, random_entries_are_distinct}
use Rattle.def_random_run.proofs.random_entries_are_sound.Goals as goal

pub returns : goal.returns
returns c = record { sound = random_entries_are_sound; distinct = random_entries_are_distinct }
