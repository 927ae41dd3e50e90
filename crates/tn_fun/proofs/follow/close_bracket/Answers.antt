use Rattle.tn_fun.proofs.Follows.{onto_closes, list_closes, no_bracket}
use Rattle.tn_fun.proofs.follow.close_bracket.Goals as goal

pub returns-in_ok-new-in-Tail : goal.returns-in_ok-new-in-Tail
returns-in_ok-new-in-Tail g c = λ text pattern at. onto_closes pattern text _ c.in_ok-operand.operand c.in_ok-operand.parts.items c.pop.new.self.items c.in-Some.part (c.in_ok-operand.ensures text) c.in-Some.ensures.items c.in-Tail.at c.in-Tail.items c.in_ok-new-in-Tail.field-0 c.in-Tail.is c.in_ok-new-in-Tail.ensures.ok

pub returns-in_ok-push-in-List : goal.returns-in_ok-push-in-List
returns-in_ok-push-in-List g c = λ text pattern at. list_closes pattern text _ c.in_ok-operand.operand c.in_ok-operand.parts.items c.pop.new.self.items c.in-Some.part (c.in_ok-operand.ensures text) c.in-Some.ensures.items c.in-List.at c.in-List.items c.push.new.self c.in-List.is c.in_ok-push-in-List.ensures.items

pub returns-in_default-part : goal.returns-in_default-part
returns-in_default-part g c = λ text pattern at. no_bracket pattern text _ c.in_ok-operand.operand c.in_ok-operand.parts.items c.pop.new.self.items c.in-Some.part (c.in_ok-operand.ensures text) c.in-Some.ensures.items (λ a es e. c.in_default-part.not-List a es e) (λ a es e. c.in_default-part.not-Tail a es e)
