use Rattle.std.proofs.Common.{arith}
use Rattle.def_run.specs.Listing.{line_of}
use Rattle.tn_messages.specs.MessageViews.{message_tree}
use Rattle.tn_answers.proofs.Parts.{part_more, all_parts}
use Rattle.tn_answers.proofs.lines.put_messages.Goals as goal

pub loop-message-preserved : goal.loop-message-preserved
loop-message-preserved g c =
    let s = c.loop-message in
    part_more (λ m. line_of (message_tree {A = g.row.A.Denot} m)) c.args.messages.now s.message-index c.message-item.result s.out.items c.put_line.new.out.items _ (omega arith) c.message-item.is s.invariant c.in_ok-put_line.ensures

pub returns : goal.returns
returns g c =
    let s = c.loop-message in
    all_parts (λ m. line_of (message_tree {A = g.row.A.Denot} m)) c.args.messages.now s.message-index s.out.items _ (omega arith) s.invariant
