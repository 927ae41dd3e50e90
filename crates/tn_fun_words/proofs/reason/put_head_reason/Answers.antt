use Rattle.std.proofs.Common.{codes}
use Rattle.tn_fun_words.proofs.Reasons.{alone_ok}
use Rattle.tn_fun_words.proofs.reason.put_head_reason.Goals as goal

pub returns-in-NoList : goal.returns-in-NoList
returns-in-NoList g c = rw c.in-NoList.is (alone_ok c.put_reason.result c.args.out.now.items (codes "the head doesn't match") c.put_reason.new.out.items (rw c.in-NoList.is at c.put_reason.ensures.ok))

pub returns-in-OtherLength : goal.returns-in-OtherLength
returns-in-OtherLength g c = rw c.in-OtherLength.is (alone_ok c.put_reason-in-OtherLength.result c.args.out.now.items (codes "the head has another number of elements") c.put_reason-in-OtherLength.new.out.items (rw c.in-OtherLength.is at c.put_reason-in-OtherLength.ensures.ok))
