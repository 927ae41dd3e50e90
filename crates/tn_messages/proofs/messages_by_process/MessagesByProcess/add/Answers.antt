use Rattle.std.proofs.Common.{◌∙◌, refl, sym, ap}
use Rattle.std.specs.Vec.{with_item}
use Rattle.tn_messages.specs.MessageViews.{pid_place, message_tree}
use Rattle.tn_messages.proofs.Additions.{none_added, one_added}
use Rattle.tn_messages.proofs.messages_by_process.MessagesByProcess.add.Goals as goal

pub returns-in_default : goal.returns-in_default
returns-in_default g c = λ ms h. none_added c.args.self.now (message_tree c.args.message) ms (sym (ap pid_place c.pid.ensures) ∙ sym c.place_of_pid.ensures.place ∙ c.in_default.is) h

pub returns : goal.returns
returns g c = λ ms h.
    one_added c.args.self.now c.lengthen.new.lists (message_tree c.args.message) c.in-Some.place ms (sym (ap pid_place c.pid.ensures) ∙ sym c.place_of_pid.ensures.place ∙ c.in-Some.is)
    c.in_ok-lengthen.ensures.with_empty h c.index_mut.result.now c.add_message.new.list (record { lists = with_item c.lengthen.new.lists c.in-Some.place c.add_message.new.list }) c.index_mut.ensures.value c.in_ok-add_message.ensures refl
