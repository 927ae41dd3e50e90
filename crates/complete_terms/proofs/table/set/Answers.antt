use Rattle.std.proofs.Common.{◌∙◌, sym, ap}
use Rattle.def_spec.specs.Flags.{with_flags_in}
use Rattle.tn_flags.specs.Views.{flags_of}
use Rattle.complete_terms.proofs.table.set.Goals as goal

pub returns : goal.returns
returns c = c.set.ensures ∙ ap (λ t. with_flags_in t c.args.pid (flags_of c.args.flags)) c.requires ∙ sym c.set-2.ensures
