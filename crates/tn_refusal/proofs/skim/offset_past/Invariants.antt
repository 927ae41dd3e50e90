use Rattle.std.proofs.Common.{◌≡◌, ◌≤◌, drop}
use Rattle.tn_refusal.specs.declared.skim.Zone.TheVariants.{Code}
use Rattle.tn_refusal.specs.Skims.{offset_past}
use Rattle.tn_refusal.proofs.skim.offset_past.Given as goal

abbrev pub invariant-loop-i : goal.invariant-loop-i
invariant-loop-i l = record {
  deep : l.depth ≤ l.i;
  passed : offset_past l.aim l.zone l.depth l.left l.i (drop l.i l.text) ≡ offset_past l.fn.aim Code 0 l.fn.count l.fn.from (drop l.fn.from l.fn.text);
}
