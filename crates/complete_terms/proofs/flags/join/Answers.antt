use Rattle.std.proofs.Common.{◌∙◌, sym, ap}
use Rattle.def_spec.specs.Flags.{union}
use Rattle.tn_flags.specs.Views.{flags_of}
use Rattle.complete_terms.proofs.flags.join.Goals as goal

pub returns : goal.returns
returns c = c.join.ensures ∙ ap (λ f. union f (flags_of c.args.flags)) c.requires ∙ sym c.join-2.ensures
