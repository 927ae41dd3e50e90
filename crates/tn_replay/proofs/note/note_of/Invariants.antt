use Rattle.std.proofs.Common.{◌≡◌, ◌+◌, ◌≤◌, drop}
use Rattle.tn_replay.proofs.NoteCounts.{counted}
use Rattle.tn_replay.proofs.note.note_of.Given as goal

abbrev pub invariant-loop-differ : goal.invariant-loop-differ
invariant-loop-differ l = (l.differing + counted (drop l.differ-index l.differs) ≡ counted l.differs) × (l.differing ≤ l.differ-index)
