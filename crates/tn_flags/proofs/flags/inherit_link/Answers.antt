use Rattle.std.proofs.Common.{refl, rules}
use Rattle.tn_flags.specs.declared.flags.TheConstants.{NONE}
use Rattle.def_spec.specs.Flags.{set_on_link, set_on_first_link}
use Rattle.tn_flags.proofs.FlagLemmas.{passed_on, both_on_link}
use Rattle.tn_flags.proofs.flags.inherit_link.Goals as goal

pub returns : goal.returns
returns c = passed_on _ _ _ _ _ (c.given_and_kept.ensures set_on_link set_on_first_link (both_on_link NONE (search rules)) refl refl) c.join.ensures
