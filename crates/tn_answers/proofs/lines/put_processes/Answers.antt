use Rattle.std.proofs.Common.{arith}
use Rattle.def_run.specs.Listing.{lines_of}
use Rattle.tn_messages.specs.MessageViews.{trees_seen}
use Rattle.tn_answers.proofs.Parts.{part_more, all_parts}
use Rattle.tn_answers.proofs.lines.put_processes.Goals as goal

pub loop-messages-preserved : goal.loop-messages-preserved
loop-messages-preserved g c =
    let s = c.loop-messages in
    part_more (λ v. lines_of (trees_seen {A = g.row.A.Denot} v)) c.args.lists.now s.messages-index c.messages-item.result s.out.items c.put_lines.new.out.items _ (omega arith) c.messages-item.is s.invariant c.in_ok-put_lines.ensures

pub returns : goal.returns
returns g c =
    let s = c.loop-messages in
    all_parts (λ v. lines_of (trees_seen {A = g.row.A.Denot} v)) c.args.lists.now s.messages-index s.out.items _ (omega arith) s.invariant
