use Rattle.def_renaming.proofs.Search.{found_is_sound, renaming_is_found}
use Rattle.def_renaming.proofs.laws.a_renaming_is_found.Goals as goal

pub returns : goal.returns
returns c = record { sound = found_is_sound; complete = renaming_is_found }
