use Rattle.tn_refusal.proofs.QuoteEnds.{put_byte_in_quotes}
use Rattle.tn_refusal.proofs.item.put_no_end.Goals as goal

pub returns-in-Some : goal.returns-in-Some
returns-in-Some g c = put_byte_in_quotes c.put_number.result c.args.out.now.items c.args.bytes.now c.put_number.new.out.items c.in-Some.b.now c.in-Some.ensures.value c.put_number.ensures
