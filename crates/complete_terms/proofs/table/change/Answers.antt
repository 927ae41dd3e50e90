use Rattle.std.proofs.Common.{◌∙◌, sym, ap}
use Rattle.def_spec.specs.Expressions.{flags_by, changes}
use Rattle.tn_flags.specs.Views.{flags_of}
use Rattle.complete_terms.proofs.table.change.Goals as goal

pub returns : goal.returns
returns c = c.change.ensures ∙ ap (λ t. flags_by c.args.pid t (changes c.args.pid (flags_of c.args.off) (flags_of c.args.on))) c.requires ∙ sym c.change-2.ensures
