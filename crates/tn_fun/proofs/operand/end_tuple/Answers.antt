use Rattle.std.proofs.Common.{sym, ◌∙◌, arith}
use Rattle.std.proofs.lemmas.Bool.{eqb-true, eqb-false}
use Rattle.tn_fun.proofs.PartEnds.{no_items, tuple_ends, tuple_goes_on, no_tuple_ends}
use Rattle.tn_fun.proofs.operand.end_tuple.Goals as goal

pub returns-then-is_empty : goal.returns-then-is_empty
returns-then-is_empty g c = λ text pattern at.
    let items = c.in-Tuple.items in
    let size = items.ok.0 in
    let none = eqb-true items.len 0 (sym c.is_empty.ensures ∙ c.if-is_empty.true) in
    tuple_ends pattern at text c.args.parts.items c.pop.new.self.items c.in-Some.part c.in-Some.ensures.items c.in-Tuple.at items c.in-Tuple.is (no_items items.items (omega (arith, size, none)))

pub returns-else-is_empty : goal.returns-else-is_empty
returns-else-is_empty g c = λ text pattern at.
    let items = c.in-Tuple.items in
    let size = items.ok.0 in
    let some = eqb-false items.len 0 (sym c.is_empty.ensures ∙ c.if-is_empty.false) in
    tuple_goes_on pattern at text c.args.parts.items c.pop.new.self.items c.in-Some.part c.in-Some.ensures.items c.in-Tuple.at items c.in-Tuple.is (omega (arith, size, some))

pub returns-in_default-part : goal.returns-in_default-part
returns-in_default-part g c = λ text pattern at.
    no_tuple_ends pattern at text c.args.parts.items c.pop.new.self.items c.in-Some.part c.in-Some.ensures.items (λ here es e. c.in_default-part.not-Tuple here es e)
