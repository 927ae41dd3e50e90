use Rattle.std.proofs.Common.{◌∙◌}
use Rattle.tn_program.proofs.BoundVariables.{known_among}
use Rattle.tn_program.proofs.variables.is_bound.Goals as goal

pub returns : goal.returns
returns g c = c.contains_key.ensures ∙ known_among c.args.bound.now c.args.name.now
