use Rattle.std.proofs.Common.{◌<◌, length, arith}
use Rattle.tn_explain.proofs.ItemTexts.{next_element}
use Rattle.tn_explain.proofs.item_text.put_elements.Goals as goal
use Rattle.tn_text.proofs.Growth.{grows_on}

pub returns-in_err-put_after-clause-grows : goal.returns-in_err-put_after-clause-grows
returns-in_err-put_after-clause-grows g c = grows_on c.loop-i.invariant.grows c.put_after.ensures.grows

pub loop-i-preserved : goal.loop-i-preserved
loop-i-preserved g c =
    let test = c.loop-i-test.true in
    let below : c.loop-i.i < length c.args.elements.now = omega arith in
    record {
      written = next_element c.args.elements.now c.loop-i.i c.index-elements-i.result c.loop-i.out.items c.put_after.new.out.items _ below c.index-elements-i.is c.loop-i.invariant.written c.in_ok-put_after.ensures.ok;
      grows = grows_on c.loop-i.invariant.grows c.put_after.ensures.grows;
    }
