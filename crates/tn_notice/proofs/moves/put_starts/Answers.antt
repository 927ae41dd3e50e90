use Rattle.std.proofs.Common.{rules}
use Rattle.tn_notice.specs.MovesViews.{entry_name}
use Rattle.tn_notice.proofs.Starts.{grows_more, next_start}
use Rattle.tn_notice.proofs.moves.put_starts.Goals as goal

pub returns-in_err-put_start-clause-grows : goal.returns-in_err-put_start-clause-grows
returns-in_err-put_start-clause-grows g c = grows_more _ _ _ c.loop-i.invariant.grows c.in_err-put_start.ensures.grows

pub loop-i-preserved : goal.loop-i-preserved
loop-i-preserved g c = record {
  written = next_start entry_name _ _ c.loop-i.between.now _ c.loop-i.i c.args.entries.now c.index-entries-i.result (search rules) c.index-entries-i.is c.in_ok-put_start.ensures.ok c.loop-i.invariant.written;
  grows = grows_more _ _ _ c.loop-i.invariant.grows c.in_ok-put_start.ensures.grows;
}
