use Rattle.std.proofs.Common.{◌∙◌, ap}
use Rattle.def_spec.specs.Flags.{has_all}
use Rattle.tn_flags.specs.Views.{flags_of}
use Rattle.tn_difference.proofs.differences.is_none.Goals as goal

pub returns : goal.returns
returns c = c.has.ensures ∙ ap (λ f. has_all f (flags_of c.args.flags)) c.none.ensures
