use Rattle.std.proofs.Common.{arith}
use Rattle.tn_text.specs.WrittenTrees.{written_tree}
use Rattle.tn_listing.proofs.LinesLemmas.{next_line}
use Rattle.tn_listing.proofs.listing.put_lines.Goals as goal
use Rattle.tn_text.proofs.Growth.{grows_on}

pub returns-in_err-put_line-clause-grows : goal.returns-in_err-put_line-clause-grows
returns-in_err-put_line-clause-grows g c = grows_on c.loop-message.invariant.grows c.put_line.ensures.grows

pub loop-message-preserved : goal.loop-message-preserved
loop-message-preserved g c = record {
  written = next_line written_tree c.args.messages.now c.loop-message.message-index c.message-item.result c.loop-message.out.items c.put_line.new.out.items _ (omega arith) c.message-item.is c.loop-message.invariant.written c.in_ok-put_line.ensures.ok;
  grows = grows_on c.loop-message.invariant.grows c.put_line.ensures.grows;
}
