use Rattle.def_explain.specs.Texts.{condition_reason_text}
use Rattle.tn_verdict.specs.Views.{condition_seen}
use Rattle.tn_verdict.proofs.Pieces.{put_ok}
use Rattle.tn_fun_words.proofs.Reasons.{after_number, fault_ok}
use Rattle.tn_fun_words.proofs.reason.put_fault.Goals as goal

pub returns : goal.returns
returns g c =
    let done = c.extend_from_slice.result in
    let r = condition_seen c.args.why in
    fault_ok done r c.args.out.now.items c.extend_from_slice.new.self.items c.after_front.result.now
    (c.after_front.ensures (condition_reason_text r)
    (after_number c.args.index r c.deref.result.now c.deref-2.result.now c.put_reason.new.out.items c.put_plain_condition.new.out.items c.new-whole.result.items c.new-front.result.items
    c.deref.ensures.value c.in_ok-put_reason.ensures.ok c.new-whole.ensures.items c.deref-2.ensures.value c.in_ok-put_plain_condition.ensures c.new-front.ensures.items))
    (put_ok done c.args.out.now.items c.after_front.result.now c.extend_from_slice.new.self.items c.extend_from_slice.ensures.items)
