use Rattle.std.proofs.Common.{codes}
use Rattle.tn_line.proofs.Names.{one_more, one_more_so}
use Rattle.tn_line.proofs.compare_command.compare.Goals as goal

pub returns : goal.returns
returns c =
    let name = codes "compare" in
    let first = one_more name _ (codes "order") c.in_ok-traces.field-0 c.in_ok-arg.field-0 c.listing_order.result c.in_ok-traces.ensures c.listing_order.ensures.named.0 c.in_ok-arg.ensures in
    let second = one_more name _ (codes "session") c.in_ok-arg.field-0 c.in_ok-arg-2.field-0 c.one_session.result first c.one_session.ensures.0 c.in_ok-arg-2.ensures in
    let third = one_more name _ (codes "max-states") c.in_ok-arg-2.field-0 c.in_ok-arg-3.field-0 c.max_states.result second c.max_states.ensures.named.0 c.in_ok-arg-3.ensures in
    let fourth = one_more name _ (codes "max-output") c.in_ok-arg-3.field-0 c.in_ok-arg-4.field-0 c.max_output.result third c.max_output.ensures.named.0
    c.in_ok-arg-4.ensures in
    let fifth = one_more name _ (codes "max-memory") c.in_ok-arg-4.field-0 c.in_ok-arg-5.field-0 c.max_memory.result fourth c.max_memory.ensures.named.0
    c.in_ok-arg-5.ensures in
    one_more_so name _ (codes "output") c.in_ok-arg-5.field-0 c.output.result c.arg-6.result fifth c.output.ensures.0 c.arg-6.ensures
