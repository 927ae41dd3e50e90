use Rattle.std.proofs.Common.{◌∙◌, sym, arith}
use Rattle.tn_fun_words.proofs.NameLists.{among_here, among_later}
use Rattle.tn_fun_words.proofs.names.is_among.Goals as goal

pub returns-then-is_name : goal.returns-then-is_name
returns-then-is_name g c = among_here c.deref-other-items.result.now c.loop-other.other-index c.other-item.result c.args.name.now _ (omega arith) c.other-item.is (sym c.is_name.ensures ∙ c.if-is_name.true) c.loop-other.invariant

pub loop-other-preserved : goal.loop-other-preserved
loop-other-preserved g c = among_later c.deref-other-items.result.now c.loop-other.other-index c.other-item.result c.args.name.now _ (omega arith) c.other-item.is (sym c.is_name.ensures ∙ c.if-is_name.false) c.loop-other.invariant
