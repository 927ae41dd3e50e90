use Rattle.std.proofs.Common.{◌≡◌, [], ap, sym, ◌∙◌, rules}
use Rattle.def_fun.specs.Reading.{gather}
use Rattle.tn_fun.specs.Trees.{fun_expr_seen}
use Rattle.tn_fun.specs.States.{open_parts_seen}
use Rattle.tn_fun.proofs.PartViews.{parts_push}
use Rattle.tn_fun.proofs.gather.gather.Goals as goal

pub loop-part-preserved : goal.loop-part-preserved
loop-part-preserved g c = λ text.
    let e = fun_expr_seen text c.loop-part.operand in
    let rest = c.pop.new.self.items in
    let top = ap (gather c.args.level e) (parts_push text c.loop-part.parts.items rest c.in-Some.part c.in-Some.ensures.items) in
    c.loop-part.invariant text ∙ top ∙ rw c.in-Whole.is at (c.in_ok-whole.ensures text (open_parts_seen text rest))

pub returns-in-Apart : goal.returns-in-Apart
returns-in-Apart g c = λ text.
    let e = fun_expr_seen text c.loop-part.operand in
    let rest = c.pop.new.self.items in
    let top = ap (gather c.args.level e) (parts_push text c.loop-part.parts.items rest c.in-Some.part c.in-Some.ensures.items) in
    c.loop-part.invariant text ∙ top ∙ rw c.in-Apart.is at (c.in_ok-whole.ensures text (open_parts_seen text rest))
    ∙ ap (λ fs. (fun_expr_seen text c.in-Apart.operand, fs)) (sym (parts_push text c.push.new.self.items rest c.in-Apart.part c.in_ok-push-in-Apart.ensures.items))

pub returns : goal.returns
returns g c = λ text.
    let e = fun_expr_seen text c.loop-part.operand in
    let none : c.loop-part.parts.items ≡ [] = search rules in
    let new : c.pop.new.self.items ≡ [] = search rules in
    c.loop-part.invariant text ∙ ap (λ vs. gather c.args.level e (open_parts_seen text vs)) none ∙ ap (λ vs. (e, open_parts_seen text vs)) (sym new)
