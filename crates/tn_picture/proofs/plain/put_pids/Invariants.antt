use Rattle.std.proofs.Common.{◌≡◌, ◌++◌, map, drop}
use Rattle.def_picture.specs.Plain.{lives_plain}
use Rattle.tn_picture.specs.Views.{life_seen}
use Rattle.tn_picture.proofs.plain.put_pids.Given as goal

abbrev pub invariant-loop-life : goal.invariant-loop-life
invariant-loop-life g l =
    l.out.items ++ lives_plain (map life_seen (drop l.life-index l.lives)) ≡ l.fn.out.items ++ lives_plain (map life_seen l.lives)
