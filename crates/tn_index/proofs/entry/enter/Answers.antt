use Rattle.std.proofs.Common.{refl}
use Rattle.std.proofs.lemmas.List.Elements.{All-push, All-same}
use Rattle.tn_index.specs.Entries.{IsUnset}
use Rattle.tn_index.proofs.entry.enter.Goals as goal

pub loop-function-preserved : goal.loop-function-preserved
loop-function-preserved g c = All-same IsUnset _ _ c.in_ok-push.ensures.items (All-push IsUnset _ _ c.loop-function.invariant refl)
