use Rattle.std.proofs.Common.{◌≡◌, take}
use Rattle.tn_live.specs.Journal.{picks_of}
use Rattle.tn_pool.proofs.assembly.journal_picks.Given as goal

abbrev pub invariant-loop-entry : goal.invariant-loop-entry
invariant-loop-entry g l = l.picks.items ≡ picks_of (take l.entry-index l.closed)
