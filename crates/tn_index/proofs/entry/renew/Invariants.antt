use Rattle.std.proofs.Common.{◌≡◌, ◌++◌, take, drop, map}
use Rattle.tn_index.specs.Entries.{renew}
use Rattle.tn_index.proofs.entry.renew.Given as goal

abbrev pub invariant-loop-entry : goal.invariant-loop-entry
invariant-loop-entry g l =
    l.entry-items ≡ map (renew l.function_setting l.place) (take l.entry-index l.initial.entry-items) ++ drop l.entry-index l.initial.entry-items
