use Rattle.std.proofs.Common.{sym, subst}
use Rattle.std.proofs.lemmas.Result.{err_from_is_err_and}
use Rattle.tn_fun.specs.States.{open_parts_seen, IsStepErrorOf}
use Rattle.tn_fun.proofs.Follows.{comma_at_top, element_added}
use Rattle.tn_fun.proofs.follow.comma.Goals as goal

pub returns-in_err-part : goal.returns-in_err-part
returns-in_err-part g c = λ text pattern at.
    let p = err_from_is_err_and c.from_residual-in_err-part.result c.from_residual-in_err-part.ensures.1 in
    let e = c.in_err-part.field-0.0 in
    rw (p.1, p.2) (subst (IsStepErrorOf e) (sym (comma_at_top pattern text _ c.in_ok-operand.operand c.in_ok-operand.parts.items c.pop.new.self.items c.in-Some.part (c.in_ok-operand.ensures text) c.in-Some.ensures.items)) (c.in_err-part.ensures text pattern (open_parts_seen text c.pop.new.self.items)))

pub returns : goal.returns
returns g c = λ text pattern at. (element_added pattern text _ c.in_ok-operand.operand c.in_ok-operand.parts.items c.pop.new.self.items c.in-Some.part (c.in_ok-operand.ensures text) c.in-Some.ensures.items c.in_ok-part.part c.push.new.self.items (c.in_ok-part.ensures text pattern (open_parts_seen text c.pop.new.self.items)) c.in_ok-push.ensures.items, tt)
