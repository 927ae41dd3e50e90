use Rattle.std.proofs.Common.{◌<◌, length, rules}
use Rattle.tn_text.specs.WrittenTrees.{written_tree}
use Rattle.tn_pool.proofs.Listings.{next_line}
use Rattle.tn_pool.proofs.assembly.append_lines.Goals as goal

pub loop-index-preserved : goal.loop-index-preserved
loop-index-preserved g c =
    let inside : c.loop-index.index < length c.args.messages.now = search rules in
    next_line written_tree c.args.messages.now c.loop-index.index c.index-messages-index.result c.loop-index.text.items c.append_line.new.text.items _ inside c.index-messages-index.is c.loop-index.invariant c.in_ok-append_line.ensures
