use Rattle.tn_live.specs.Journal.{picks_of}
use Rattle.tn_listing.proofs.OutputLemmas.{one_more_listing}
use Rattle.tn_pool.proofs.assembly.append_listings.Goals as goal

pub loop-number-preserved : goal.loop-number-preserved
loop-number-preserved g c =
    one_more_listing g.J.JournalName.program (picks_of c.args.closed.now) c.loop-number.number c.args.text.now.items c.loop-number.text.items c.append_listing.new.text.items c.loop-number.invariant c.in_ok-lines.ensures
