use Rattle.std.proofs.Common.{◌≡◌, ℕ, List, length}
use Rattle.def_fun.specs.Reading.{gather}
use Rattle.tn_fun.specs.Trees.{fun_expr_seen}
use Rattle.tn_fun.specs.States.{open_parts_seen}
use Rattle.tn_fun.proofs.gather.gather.Given as goal

abbrev pub invariant-loop-part : goal.invariant-loop-part
invariant-loop-part g l = (text : List ℕ) → gather l.level (fun_expr_seen text l.initial.operand) (open_parts_seen text l.initial.parts.items) ≡ gather l.level (fun_expr_seen text l.operand) (open_parts_seen text l.parts.items)

abbrev pub decreases-loop-part : goal.decreases-loop-part
decreases-loop-part g l = length l.parts.items
