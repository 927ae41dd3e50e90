use Rattle.std.proofs.Common.{◌∙◌, sym, ap}
use Rattle.complete_terms.proofs.flags.link.Goals as goal

pub returns-clause-linker : goal.returns-clause-linker
returns-clause-linker c = ap (λ p. p.0) (c.inherit_link.ensures ∙ sym c.inherit_link-2.ensures)

pub returns-clause-partner : goal.returns-clause-partner
returns-clause-partner c = ap (λ p. p.1) (c.inherit_link.ensures ∙ sym c.inherit_link-2.ensures)
