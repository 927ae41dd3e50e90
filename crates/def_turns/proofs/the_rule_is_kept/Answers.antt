use Rattle.def_turns.proofs.Rule.{opening_is, rule_kept}
use Rattle.def_turns.proofs.the_rule_is_kept.Goals as goal

pub returns : goal.returns
returns c = record { opening = opening_is; step = rule_kept }
