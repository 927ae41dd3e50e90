use Rattle.std.proofs.Common.{refl, rules}
use Rattle.tn_flags.specs.declared.flags.TheConstants.{NONE}
use Rattle.def_spec.specs.Flags.{set_on_spawn, set_on_first_spawn}
use Rattle.tn_flags.proofs.FlagLemmas.{passed_on, both_on_spawn}
use Rattle.tn_flags.proofs.flags.inherit_spawn.Goals as goal

pub returns : goal.returns
returns c = passed_on _ _ _ _ _ (c.given_and_kept.ensures set_on_spawn set_on_first_spawn (both_on_spawn NONE (search rules)) refl refl) c.join.ensures
