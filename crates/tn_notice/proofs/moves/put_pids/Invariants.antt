use Rattle.std.proofs.Common.{◌≡◌, ◌++◌, drop}
use Rattle.def_notice.specs.MovesTexts.{pids_after, pids_text}
use Rattle.tn_text.specs.Writes.{Grows}
use Rattle.tn_notice.proofs.moves.put_pids.Given as goal

abbrev pub invariant-loop-pid : goal.invariant-loop-pid
invariant-loop-pid g l = record {
  written : l.out.items ++ pids_after l.between (drop l.pid-index l.pids) ≡ l.initial.out.items ++ pids_text l.pids;
  grows : Grows l.initial.out.items l.out.items;
}
