use Rattle.std.proofs.Common.{◌≡◌, ℕ, List, drop}
use Rattle.tn_fun.proofs.Endings.{all_wait}
use Rattle.tn_fun.proofs.expr_end.none_open.Given as goal

abbrev pub invariant-loop-part : goal.invariant-loop-part
invariant-loop-part g l = (text : List ℕ) → all_wait text (drop l.part-index l.parts) ≡ all_wait text l.parts
