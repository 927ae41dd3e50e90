use Rattle.std.proofs.Common.{◌∙◌, sym, ap}
use Rattle.complete_terms.proofs.flags.spawn.Goals as goal

pub returns-clause-parent : goal.returns-clause-parent
returns-clause-parent c = ap (λ p. p.0) (c.inherit_spawn.ensures ∙ sym c.inherit_spawn-2.ensures)

pub returns-clause-child : goal.returns-clause-child
returns-clause-child c = ap (λ p. p.1) (c.inherit_spawn.ensures ∙ sym c.inherit_spawn-2.ensures)
