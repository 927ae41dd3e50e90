use Rattle.std.proofs.Common.{sym, ◌∙◌, arith}
use Rattle.std.proofs.lemmas.Bool.{eqb-true, eqb-false}
use Rattle.tn_fun.proofs.PartEnds.{no_items, list_ends, list_goes_on, no_list_ends}
use Rattle.tn_fun.proofs.operand.end_list.Goals as goal

pub returns-then-is_empty : goal.returns-then-is_empty
returns-then-is_empty g c = λ text pattern at.
    let items = c.in-List.items in
    let size = items.ok.0 in
    let none = eqb-true items.len 0 (sym c.is_empty.ensures ∙ c.if-is_empty.true) in
    list_ends pattern at text c.args.parts.items c.pop.new.self.items c.in-Some.part c.in-Some.ensures.items c.in-List.at items c.in-List.is (no_items items.items (omega (arith, size, none)))

pub returns-else-is_empty : goal.returns-else-is_empty
returns-else-is_empty g c = λ text pattern at.
    let items = c.in-List.items in
    let size = items.ok.0 in
    let some = eqb-false items.len 0 (sym c.is_empty.ensures ∙ c.if-is_empty.false) in
    list_goes_on pattern at text c.args.parts.items c.pop.new.self.items c.in-Some.part c.in-Some.ensures.items c.in-List.at items c.in-List.is (omega (arith, size, some))

pub returns-in_default-part : goal.returns-in_default-part
returns-in_default-part g c = λ text pattern at.
    no_list_ends pattern at text c.args.parts.items c.pop.new.self.items c.in-Some.part c.in-Some.ensures.items (λ here es e. c.in_default-part.not-List here es e)
