use Rattle.def_renaming.proofs.Terms.{begun_sound, begun_least}
use Rattle.def_renaming.proofs.laws.pairs_of_a_prefix_are_least.Goals as goal

pub returns : goal.returns
returns c = record { sound = begun_sound; least = begun_least }
