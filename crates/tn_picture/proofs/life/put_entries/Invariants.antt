use Rattle.std.proofs.Common.{◌≡◌, ◌≤◌, ◌-◌, ◌++◌, map}
use Rattle.def_run.specs.Round.{pass_from}
use Rattle.def_picture.specs.Picture.{life_of}
use Rattle.tn_picture.specs.Views.{life_seen, picture_row_seen}
use Rattle.tn_picture.proofs.life.put_entries.Given as goal

abbrev pub invariant-loop-pid : goal.invariant-loop-pid
invariant-loop-pid g l = record {
  within : 100 ≤ l.pid;
  before : l.pid ≤ l.end;
  added : map life_seen l.lives.items ++ map (life_of (map picture_row_seen l.rows)) (pass_from (l.end - l.pid) l.pid)
      ≡ map life_seen l.fn.lives.items ++ map (life_of (map picture_row_seen l.rows)) (pass_from l.fn.entries 100);
}
