use Rattle.std.proofs.Common.{arith, rules}
use Rattle.tn_term.specs.Views.{tree_of}
use Rattle.tn_term.proofs.Steps.{made_more}
use Rattle.tn_guard.specs.Views.{value_seen}
use Rattle.tn_guard.proofs.copies.+copy.Goals as goal

pub copy_values-loop-i-preserved : goal.copy_values-loop-i-preserved
copy_values-loop-i-preserved g t c =
    made_more value_seen tree_of c.args.items.now c.loop-i.i c.index-items-i.result c.loop-i.copies.items c.push.new.self.items c.in_ok-copy_value.field-0
    (omega arith) c.index-items-i.is (search rules) c.in_ok-copy_value.ensures c.loop-i.invariant
