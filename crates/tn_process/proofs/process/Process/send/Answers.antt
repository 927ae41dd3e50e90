use Rattle.std.proofs.Common.{◌≡◌, ℕ, ap, sym, ◌∙◌, ◌∷◌, Option, Some, None}
use Rattle.std.specs.Option.{option_map}
use Rattle.def_term.specs.Tree.{Tree}
use Rattle.def_node.specs.Values.{fit}
use Rattle.def_node.specs.Process.{Act, Frame, Process, sends, step_on, to_pid, with_frames, within}
use Rattle.tn_term.specs.SharedTree.{shared_tree}
use Rattle.tn_process.specs.Templates.{built_in}
use Rattle.tn_process.specs.Views.{frame_of, process_seen}
use Rattle.tn_process.proofs.Acts.{ended, within_pid}
use Rattle.tn_process.proofs.process.Process.send.Goals as goal

pub returns-in_default : goal.returns-in_default
returns-in_default g c =
    let q = process_seen c.args.self.now in
    let t = fit (built_in c.args.frame c.args.message.now) in
    let after : Option ℕ → Act = λ p. within q.links t (λ t. to_pid (λ n. sends (step_on q (frame_of c.args.frame) q.frames) n t) q.links p) in
    ended c.args.self.now _ _ _ c.over_limit.ensures
    (within_pid q.links (fit (built_in c.args.frame c.args.to.now)) None after (sym c.in_default.is ∙ c.in_ok-to.ensures))

pub returns-in_default-2 : goal.returns-in_default-2
returns-in_default-2 g c =
    let q = process_seen c.args.self.now in
    let t = fit (built_in c.args.frame c.args.message.now) in
    let sent : Option ℕ → Tree → Act = λ p t. to_pid (λ n. sends (step_on q (frame_of c.args.frame) q.frames) n t) q.links p in
    let none : None ≡ t = ap (option_map shared_tree) (sym c.in_default-2.is) ∙ c.in_ok-message.ensures in
    ended c.args.self.now _ _ _ c.over_limit-in_default-2.ensures
    (ap (λ v. within q.links v (sent c.in-Some.to)) none
    ∙ within_pid q.links (fit (built_in c.args.frame c.args.to.now)) (Some c.in-Some.to) (λ p. within q.links t (sent p)) (sym c.in-Some.is ∙ c.in_ok-to.ensures))

pub returns-in_default-to : goal.returns-in_default-to
returns-in_default-to g c =
    let q = process_seen c.args.self.now in
    let t = fit (built_in c.args.frame c.args.message.now) in
    let sent : Option ℕ → Tree → Act = λ p t. to_pid (λ n. sends (step_on q (frame_of c.args.frame) q.frames) n t) q.links p in
    let some : Some (shared_tree c.in-Some-2.message) ≡ t = ap (option_map shared_tree) (sym c.in-Some-2.is) ∙ c.in_ok-message.ensures in
    ended c.args.self.now _ _ _ c.ends_with.ensures
    (ap (λ v. within q.links v (sent None)) some
    ∙ ap (λ p. within q.links t (sent p)) (sym c.in_default-to.is)
    ∙ within_pid q.links (fit (built_in c.args.frame c.args.to.now)) (Some c.in-Some.to) (λ p. within q.links t (sent p)) (sym c.in-Some.is ∙ c.in_ok-to.ensures))

pub returns : goal.returns
returns g c =
    let q = process_seen c.args.self.now in
    let t = fit (built_in c.args.frame c.args.message.now) in
    let sent : Option ℕ → Tree → Act = λ p t. to_pid (λ n. sends (step_on q (frame_of c.args.frame) q.frames) n t) q.links p in
    let some : Some (shared_tree c.in-Some-2.message) ≡ t = ap (option_map shared_tree) (sym c.in-Some-2.is) ∙ c.in_ok-message.ensures in
    let pushed = c.in_ok-push_frame.ensures ∙ ap (λ (fr : Frame). with_frames q (fr ∷ q.frames)) c.advance.ensures in
    ap (λ (p : Process). sends p c.in-Some-to.to (shared_tree c.in-Some-2.message)) pushed
    ∙ ap (λ v. within q.links v (sent (Some c.in-Some-to.to))) some
    ∙ ap (λ p. within q.links t (sent p)) (sym c.in-Some-to.is)
    ∙ within_pid q.links (fit (built_in c.args.frame c.args.to.now)) (Some c.in-Some.to) (λ p. within q.links t (sent p)) (sym c.in-Some.is ∙ c.in_ok-to.ensures)
