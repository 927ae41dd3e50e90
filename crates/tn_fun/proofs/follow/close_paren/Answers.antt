use Rattle.tn_fun.proofs.Follows.{parens_close, call_closes, no_paren}
use Rattle.tn_fun.proofs.follow.close_paren.Goals as goal

pub returns-in_ok-new-in-Parens : goal.returns-in_ok-new-in-Parens
returns-in_ok-new-in-Parens g c = λ text pattern at. parens_close pattern text _ c.in_ok-operand.operand c.in_ok-operand.parts.items c.pop.new.self.items c.in-Some.part (c.in_ok-operand.ensures text) c.in-Some.ensures.items c.in-Parens.at c.in_ok-new-in-Parens.field-0 c.in-Parens.is c.in_ok-new-in-Parens.ensures.ok

pub returns-in_ok-push-in-Call : goal.returns-in_ok-push-in-Call
returns-in_ok-push-in-Call g c = λ text pattern at. call_closes pattern text _ c.in_ok-operand.operand c.in_ok-operand.parts.items c.pop.new.self.items c.in-Some.part (c.in_ok-operand.ensures text) c.in-Some.ensures.items c.in-Call.name c.in-Call.items c.push.new.self c.in-Call.is c.in_ok-push-in-Call.ensures.items

pub returns-in_default-part : goal.returns-in_default-part
returns-in_default-part g c = λ text pattern at. no_paren pattern text _ c.in_ok-operand.operand c.in_ok-operand.parts.items c.pop.new.self.items c.in-Some.part (c.in_ok-operand.ensures text) c.in-Some.ensures.items (λ a e. c.in_default-part.not-Parens a e) (λ v es e. c.in_default-part.not-Call v es e)
