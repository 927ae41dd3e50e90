use Rattle.std.proofs.Common.{◌∙◌, ap, map}
use Rattle.std.specs.Option.{option_map}
use Rattle.def_term.specs.Text.{w}
use Rattle.tn_flags.specs.Views.{event_of, flags_of}
use Rattle.tn_node.specs.Outlooks.{outlook_seen}
use Rattle.tn_session.specs.Looks.{look_seen}
use Rattle.tn_session.specs.Messages.{message_seen}
use Rattle.tn_session.specs.Sessions.{value_in}
use Rattle.tn_running_node.specs.Messages.{run_messages_by, silent_by, sight_view}
use Rattle.tn_running_node.specs.Views.{node_mark_seen, node_run_seen}
use Rattle.tn_running_node.proofs.Sessions.{is_reported_there}
use Rattle.tn_running_node.proofs.SeesThere.{sees_there}
use Rattle.tn_running_node.proofs.node_session.NodeSession.see.Goals as goal

pub returns : goal.returns
returns g c =
    let e = event_of c.args.event.now in
    let s = look_seen c.in-Some.look in
    let t = look_seen c.in-Some-look.look in
    let m = option_map message_seen c.in_ok-message.message in
    let r = node_run_seen c.args.run.now in
    let l = outlook_seen c.args.outlook in
    sees_there c.args.run.now c.args.outlook c.args.event.now c.args.here.now c.args.self.now _ c.in_ok-lines.lines s t m
    (λ its. c.in_ok-lines.ensures c.in_ok-message.ensures.of_event its
    ∙ ap (λ ms. map w (run_messages_by r l (map node_mark_seen ms) (sight_view c.sight_after.result) e m)) c.deref.ensures.value
    ∙ ap (λ v. map w (run_messages_by r l (map node_mark_seen c.args.self.now.marks.items) v e m)) (c.sight_after.ensures ∙ ap (λ v. silent_by v t e) c.sight_before-before.ensures))
    c.in_ok-change_marks.ensures
    (is_reported_there (value_in c.args.self.now.session) (value_in c.set_new_process_flags.new.self) (value_in c.tell.new.self) (value_in c.set_new_process_flags-2.new.self) s t e m (flags_of c.new_flags_for-flags_there.result) (flags_of c.new_process_flags-new_flags.result)
    c.in-Some.ensures c.set_new_process_flags.ensures c.in_ok-message.ensures.reported c.set_new_process_flags-2.ensures c.in-Some-look.ensures c.new_flags_for-flags_there.ensures c.new_process_flags-new_flags.ensures)
