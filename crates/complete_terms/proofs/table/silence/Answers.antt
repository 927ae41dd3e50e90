use Rattle.std.proofs.Common.{◌∙◌, sym, ap}
use Rattle.def_spec.specs.Expressions.{flags_by, silences}
use Rattle.complete_terms.proofs.table.silence.Goals as goal

pub returns : goal.returns
returns c = c.silence.ensures ∙ ap (λ t. flags_by c.args.pid t (silences c.args.on)) c.requires ∙ sym c.silence-2.ensures
