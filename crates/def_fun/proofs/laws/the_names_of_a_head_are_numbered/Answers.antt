use Rattle.def_fun.proofs.NumberedNames.{numbers_are_places, places_are_numbers, head_binds}
use Rattle.def_fun.proofs.laws.the_names_of_a_head_are_numbered.Goals as goal

pub returns : goal.returns
returns c = record { places = numbers_are_places; numbers = places_are_numbers; bound = head_binds }
