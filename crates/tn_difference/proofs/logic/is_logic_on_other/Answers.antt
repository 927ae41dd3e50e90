use Rattle.std.proofs.Common.{◌∙◌, take, ap}
use Rattle.tn_difference.proofs.LogicSteps.{same_again}
use Rattle.tn_difference.proofs.logic.is_logic_on_other.Goals as goal

pub returns-clause-effects : goal.returns-clause-effects
returns-clause-effects g c =
    same_again c.args.effects.now c.has_other_value.new.effects c.truncate.new.self c.in_ok-found.ensures.effects
    (c.truncate.ensures.items ∙ ap (λ n. take n c.has_other_value.new.effects.items) (c.len-before.ensures ∙ c.args.effects.now.ok.0))
