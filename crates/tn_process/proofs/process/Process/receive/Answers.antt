use Rattle.std.proofs.Common.{ap, ap₂, sym, ◌∙◌, ◌∷◌, map, List}
use Rattle.def_node.specs.Event.{Event}
use Rattle.def_node.specs.Process.{Process, Frame, continues, receives, with_frames}
use Rattle.tn_term.specs.SharedTree.{shared_tree}
use Rattle.tn_flags.specs.Views.{event_of}
use Rattle.tn_process.specs.StepAnswers.{with_target}
use Rattle.tn_process.specs.Views.{frame_of, process_seen}
use Rattle.tn_process.proofs.process.Process.receive.Goals as goal

pub returns-in_ok-push_frame-in-Some : goal.returns-in_ok-push_frame-in-Some
returns-in_ok-push_frame-in-Some g c =
    let q = process_seen c.args.self.now in
    let f = frame_of c.args.frame in
    let x = c.args.target.now in
    let t = shared_tree c.in-Some.message in
    let left : Process = record q { mailbox = map shared_tree c.pop_front.new.self.items } in
    let framed = c.in_ok-bind-in-Some.ensures ∙ ap (λ (fr : Frame). with_target fr x t) c.advance.ensures in
    let pushed = c.in_ok-push_frame-in-Some.ensures ∙ ap (λ (fr : Frame). with_frames left (fr ∷ q.frames)) framed in
    ap₂ (λ (p : Process) (es : List Event). continues p es) pushed (ap (map event_of) c.new.ensures.items)
    ∙ sym (ap (λ ts. receives q f q.frames x (map shared_tree ts)) c.in-Some.ensures.items)
