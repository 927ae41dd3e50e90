use Rattle.std.proofs.Common.{◌∙◌, ◌++◌, map, drop, length, ap, arith}
use Rattle.tn_message_moves.specs.Tallies.{tallies_seen}
use Rattle.tn_message_moves.proofs.Numbers.{no_numbers, one_none}
use Rattle.tn_message_moves.proofs.moves.no_moves.Goals as goal

pub loop-alloc-preserved : goal.loop-alloc-preserved
loop-alloc-preserved g c =
    let slots = c.args.slots.now.items in
    let vs = c.loop-alloc.moves.items in
    let v = c.new.result in
    ap (λ l. tallies_seen l ++ map (λ s. no_numbers) (drop (length l) slots)) c.in_ok-push.ensures.items ∙ one_none slots vs v c.new.ensures.items (omega (arith, c.loop-alloc-test.true, c.len.ensures, c.len-in-loop-alloc.ensures)) ∙ c.loop-alloc.invariant
