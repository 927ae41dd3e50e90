use Rattle.std.proofs.Common.{◌∙◌, ap}
use Rattle.def_spec.specs.Flags.{Flags, after_spawn}
use Rattle.tn_flags.specs.Views.{flags_of}
use Rattle.tn_difference.proofs.differences.handed_on.Goals as goal

pub returns : goal.returns
returns c = ap (λ (p : Flags × Flags). p.1) c.inherit_spawn.ensures ∙ ap (λ f. (after_spawn (flags_of c.args.flags) f).1) c.none.ensures
