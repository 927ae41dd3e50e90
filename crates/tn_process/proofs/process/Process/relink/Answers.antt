use Rattle.std.proofs.Common.{ℕ, ap, sym, ◌∙◌, ◌∷◌, Option, Some, None}
use Rattle.def_node.specs.Values.{fit}
use Rattle.def_node.specs.Process.{Act, Frame, Process, step_on, to_pid, with_frames}
use Rattle.tn_process.specs.StepAnswers.{relinks}
use Rattle.tn_process.specs.Templates.{built_in}
use Rattle.tn_process.specs.Views.{frame_of, process_seen}
use Rattle.tn_process.proofs.Acts.{ended, within_pid}
use Rattle.tn_process.proofs.process.Process.relink.Goals as goal

pub returns-in_default : goal.returns-in_default
returns-in_default g c =
    let q = process_seen c.args.self.now in
    let after : Option ℕ → Act = λ p. to_pid (relinks c.args.linked (step_on q (frame_of c.args.frame) q.frames)) q.links p in
    ended c.args.self.now _ _ _ c.over_limit.ensures
    (within_pid q.links (fit (built_in c.args.frame c.args.template.now)) None after (sym c.in_default.is ∙ c.in_ok-other.ensures))

pub returns-in_default-other : goal.returns-in_default-other
returns-in_default-other g c =
    let q = process_seen c.args.self.now in
    let after : Option ℕ → Act = λ p. to_pid (relinks c.args.linked (step_on q (frame_of c.args.frame) q.frames)) q.links p in
    ended c.args.self.now _ _ _ c.ends_with.ensures
    (ap after (sym c.in_default-other.is)
    ∙ within_pid q.links (fit (built_in c.args.frame c.args.template.now)) (Some c.in-Some.other) after (sym c.in-Some.is ∙ c.in_ok-other.ensures))

pub returns : goal.returns
returns g c =
    let q = process_seen c.args.self.now in
    let after : Option ℕ → Act = λ p. to_pid (relinks c.args.linked (step_on q (frame_of c.args.frame) q.frames)) q.links p in
    let pushed = c.in_ok-push_frame.ensures ∙ ap (λ (fr : Frame). with_frames q (fr ∷ q.frames)) c.advance.ensures in
    c.link_act.ensures c.push_frame.new.self
    ∙ ap (λ (p : Process). relinks c.args.linked p c.in-Some-other.other) pushed
    ∙ ap after (sym c.in-Some-other.is)
    ∙ within_pid q.links (fit (built_in c.args.frame c.args.template.now)) (Some c.in-Some.other) after (sym c.in-Some.is ∙ c.in_ok-other.ensures)
