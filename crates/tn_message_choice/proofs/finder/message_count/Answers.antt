use Rattle.std.proofs.Common.{◌≡◌, ◌∙◌, ap}
use Rattle.tn_program.specs.Views.{program_of}
use Rattle.tn_trace.specs.declared.recorder.Recorder.{Recorder}
use Rattle.tn_moves.specs.Plans.{plan_picks}
use Rattle.tn_message_choice.specs.Counts.{sent_in}
use Rattle.tn_message_choice.specs.declared.count.Count.{Count}
use Rattle.tn_message_choice.proofs.FoundMoves.{count_there, count_past}
use Rattle.tn_message_choice.proofs.finder.message_count.Goals as goal

pub drive-requires : goal.drive-requires
drive-requires g c = record { start = c.in_ok-recorder.ensures }

pub returns-then-sent-lt18446744073709551615 : goal.returns-then-sent-lt18446744073709551615
returns-then-sent-lt18446744073709551615 g c =
    let n = c.args.session.now in
    let p = program_of c.args.program.now in
    let r = c.in_ok-run.run'.observer in
    let counted : c.sent_by-sent.result ≡ sent_in n r.slots.items = c.sent_by-sent.ensures ∙ ap (sent_in n) (c.deref.ensures.value ∙ ap (λ (s : Recorder _ Count). s.slots.items) c.observer.ensures) in
    count_there r p (plan_picks p c.args.plan.now) n c.sent_by-sent.result c.in_ok-run.ensures.driven.run.seen counted c.if-sent-lt18446744073709551615.true

pub returns : goal.returns
returns g c =
    let n = c.args.session.now in
    let p = program_of c.args.program.now in
    let r = c.in_ok-run.run'.observer in
    let counted : c.sent_by-sent.result ≡ sent_in n r.slots.items = c.sent_by-sent.ensures ∙ ap (sent_in n) (c.deref.ensures.value ∙ ap (λ (s : Recorder _ Count). s.slots.items) c.observer.ensures) in
    count_past r p (plan_picks p c.args.plan.now) n c.sent_by-sent.result c.in_ok-run.ensures.driven.run.seen counted c.if-sent-lt18446744073709551615.false
