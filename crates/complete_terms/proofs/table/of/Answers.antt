use Rattle.std.proofs.Common.{◌∙◌, sym, ap}
use Rattle.def_spec.specs.Flags.{flags_in}
use Rattle.complete_terms.proofs.table.of.Goals as goal

pub returns : goal.returns
returns c = c.of.ensures ∙ ap (λ t. flags_in t c.args.pid) c.requires ∙ sym c.of-2.ensures
