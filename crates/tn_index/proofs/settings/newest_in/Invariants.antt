use Rattle.std.proofs.Common.{◌≡◌, ◌≤◌, length, take, reverse}
use Rattle.tn_term.specs.Views.{mfa_seen}
use Rattle.tn_index.specs.Newest.{newest_setting}
use Rattle.tn_index.proofs.settings.newest_in.Given as goal

abbrev pub invariant-loop-left : goal.invariant-loop-left
invariant-loop-left g l = record {
  within : l.left ≤ length l.accepted;
  older : newest_setting (reverse l.accepted) (mfa_seen l.function) l.exported ≡ newest_setting (reverse (take l.left l.accepted)) (mfa_seen l.function) l.exported;
}

abbrev pub decreases-loop-left : goal.decreases-loop-left
decreases-loop-left g l = l.left
