use Rattle.std.proofs.Common.{◌∙◌, sym, ap}
use Rattle.def_spec.specs.Flags.{without}
use Rattle.tn_flags.specs.Views.{flags_of}
use Rattle.complete_terms.proofs.flags.without.Goals as goal

pub returns : goal.returns
returns c = c.without.ensures ∙ ap (λ f. without f (flags_of c.args.flags)) c.requires ∙ sym c.without-2.ensures
