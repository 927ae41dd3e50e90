use Rattle.tn_text.proofs.Growth.{grows_on, on_failed, escaped_more, all_escaped}
use Rattle.tn_text.proofs.write.put_escaped.Goals as goal

pub loop-b-preserved : goal.loop-b-preserved
loop-b-preserved g c =
    record {
      written = escaped_more c.args.bytes.now c.loop-b.b-index c.loop-b.out.items c.put_byte.new.out.items _ c.loop-b-test.true c.loop-b.invariant.written c.in_ok-put_byte.ensures.ok;
      grows = grows_on c.loop-b.invariant.grows c.put_byte.ensures.grows;
    }

pub returns-in_err-put_byte-clause-ok : goal.returns-in_err-put_byte-clause-ok
returns-in_err-put_byte-clause-ok g c = on_failed c.from_residual.result _ _ c.from_residual.ensures.1

pub returns-in_err-put_byte-clause-grows : goal.returns-in_err-put_byte-clause-grows
returns-in_err-put_byte-clause-grows g c = grows_on c.loop-b.invariant.grows c.put_byte.ensures.grows

pub returns-clause-ok : goal.returns-clause-ok
returns-clause-ok g c = all_escaped c.args.bytes.now c.loop-b.b-index c.loop-b.out.items _ c.loop-b-test.false c.loop-b.invariant.written

pub returns-clause-grows : goal.returns-clause-grows
returns-clause-grows g c = c.loop-b.invariant.grows
