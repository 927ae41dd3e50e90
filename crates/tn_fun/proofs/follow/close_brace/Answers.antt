use Rattle.tn_fun.proofs.Follows.{tuple_closes, no_brace}
use Rattle.tn_fun.proofs.follow.close_brace.Goals as goal

pub returns-in_ok-push-in-Tuple : goal.returns-in_ok-push-in-Tuple
returns-in_ok-push-in-Tuple g c = λ text pattern at. tuple_closes pattern text _ c.in_ok-operand.operand c.in_ok-operand.parts.items c.pop.new.self.items c.in-Some.part (c.in_ok-operand.ensures text) c.in-Some.ensures.items c.in-Tuple.at c.in-Tuple.items c.push.new.self c.in-Tuple.is c.in_ok-push-in-Tuple.ensures.items

pub returns-in_default-part : goal.returns-in_default-part
returns-in_default-part g c = λ text pattern at. no_brace pattern text _ c.in_ok-operand.operand c.in_ok-operand.parts.items c.pop.new.self.items c.in-Some.part (c.in_ok-operand.ensures text) c.in-Some.ensures.items (λ a es e. c.in_default-part.not-Tuple a es e)
