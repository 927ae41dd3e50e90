use Rattle.std.proofs.Common.{◌≡◌, drop}
use Rattle.tn_remark.specs.TextLines.{texts_seen}
use Rattle.tn_replay.specs.RemarkedSessions.{has_some}
use Rattle.tn_replay.proofs.remark_observer.has_text.Given as goal

abbrev pub invariant-loop-place : goal.invariant-loop-place
invariant-loop-place g l = has_some (texts_seen (drop l.place l.texts.items)) ≡ has_some (texts_seen l.texts.items)
