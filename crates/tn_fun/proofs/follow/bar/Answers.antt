use Rattle.tn_fun.proofs.Follows.{tail_opens, no_bar}
use Rattle.tn_fun.proofs.follow.bar.Goals as goal

pub returns-in_ok-push-in-List-2 : goal.returns-in_ok-push-in-List-2
returns-in_ok-push-in-List-2 g c = λ text pattern at. (tail_opens pattern text _ c.in_ok-operand.operand c.in_ok-operand.parts.items c.pop.new.self.items c.in-Some.part (c.in_ok-operand.ensures text) c.in-Some.ensures.items c.in-List.at c.in-List.items c.push.new.self c.push-in-List.new.self.items c.in-List.is c.in_ok-push-in-List.ensures.items c.in_ok-push-in-List-2.ensures.items, tt)

pub returns-in_default-part : goal.returns-in_default-part
returns-in_default-part g c = λ text pattern at. no_bar pattern text _ c.in_ok-operand.operand c.in_ok-operand.parts.items c.pop.new.self.items c.in-Some.part (c.in_ok-operand.ensures text) c.in-Some.ensures.items (λ a es e. c.in_default-part.not-List a es e)
