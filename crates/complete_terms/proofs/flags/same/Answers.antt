use Rattle.std.proofs.Common.{◌∙◌, sym, ap}
use Rattle.def_spec.specs.Flags.{same_flags}
use Rattle.tn_flags.specs.Views.{flags_of}
use Rattle.complete_terms.proofs.flags.same.Goals as goal

pub returns : goal.returns
returns c = c.same.ensures ∙ ap (λ f. same_flags f (flags_of c.args.flags)) c.requires ∙ sym c.same-2.ensures
