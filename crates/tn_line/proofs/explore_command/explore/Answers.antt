use Rattle.std.proofs.Common.{codes}
use Rattle.tn_line.proofs.Names.{one_more, one_more_so}
use Rattle.tn_line.proofs.explore_command.explore.Goals as goal

pub returns : goal.returns
returns c =
    let name = codes "explore" in
    let first = one_more name _ (codes "shows") c.in_ok-schedules.field-0 c.in_ok-arg.field-0 c.shows.result c.in_ok-schedules.ensures c.shows.ensures.0 c.in_ok-arg.ensures in
    let second = one_more name _ (codes "always") c.in_ok-arg.field-0 c.in_ok-arg-2.field-0 c.always.result first c.always.ensures.0 c.in_ok-arg-2.ensures in
    let third = one_more name _ (codes "never") c.in_ok-arg-2.field-0 c.in_ok-arg-3.field-0 c.never.result second c.never.ensures.0 c.in_ok-arg-3.ensures in
    let fourth = one_more name _ (codes "sometimes") c.in_ok-arg-3.field-0 c.in_ok-arg-4.field-0 c.sometimes.result third c.sometimes.ensures.0
    c.in_ok-arg-4.ensures in
    let fifth = one_more name _ (codes "random") c.in_ok-arg-4.field-0 c.in_ok-arg-5.field-0 c.random.result fourth c.random.ensures.named.0
    c.in_ok-arg-5.ensures in
    let sixth = one_more name _ (codes "seed") c.in_ok-arg-5.field-0 c.in_ok-arg-6.field-0 c.in_ok-seed.field-0 fifth c.in_ok-seed.ensures.named.0
    c.in_ok-arg-6.ensures in
    let seventh = one_more name _ (codes "reduce") c.in_ok-arg-6.field-0 c.in_ok-arg-7.field-0 c.in_ok-reduce.field-0 sixth c.in_ok-reduce.ensures.0
    c.in_ok-arg-7.ensures in
    let eighth = one_more name _ (codes "max-states") c.in_ok-arg-7.field-0 c.in_ok-arg-8.field-0 c.max_states.result seventh c.max_states.ensures.named.0
    c.in_ok-arg-8.ensures in
    let ninth = one_more name _ (codes "max-output") c.in_ok-arg-8.field-0 c.in_ok-arg-9.field-0 c.max_output.result eighth c.max_output.ensures.named.0
    c.in_ok-arg-9.ensures in
    let tenth = one_more name _ (codes "max-memory") c.in_ok-arg-9.field-0 c.in_ok-arg-10.field-0 c.max_memory.result ninth c.max_memory.ensures.named.0
    c.in_ok-arg-10.ensures in
    one_more_so name _ (codes "output") c.in_ok-arg-10.field-0 c.output.result c.arg-11.result tenth c.output.ensures.0 c.arg-11.ensures
