use Rattle.std.proofs.Common.{ap, ap₂, sym, ◌∙◌, ◌∷◌, map}
use Rattle.std.specs.Option.{option_map}
use Rattle.std.proofs.lemmas.List.{length-map}
use Rattle.def_term.specs.Names.{mfa_from}
use Rattle.def_script.specs.Program.{number_from}
use Rattle.def_node.specs.Process.{enters, next_step, step_on, with_frames}
use Rattle.tn_term.specs.SharedTree.{shared_tree}
use Rattle.tn_script.specs.Views.{functions_of}
use Rattle.tn_process.specs.StepAnswers.{manner_in}
use Rattle.tn_process.specs.Views.{process_seen, frame_of}
use Rattle.tn_process.proofs.Acts.{ended, done, within_none, within_some}
use Rattle.tn_process.proofs.process.Process.call.Goals as goal

pub returns-in_default : goal.returns-in_default
returns-in_default g c =
    ended c.args.self.now _ _ _ c.over_limit.ensures
    (within_none (process_seen c.args.self.now).links _ _ (ap (option_map (λ v. map shared_tree v.items)) (sym c.in_default.is) ∙ c.in_ok-args.ensures))

pub returns : goal.returns
returns g c =
    let ks = functions_of c.args.context.now.functions.now in
    let args = c.in-Some.args in
    let q = process_seen c.args.self.now in
    let k = c.args.callee.now in
    let f = frame_of c.args.frame in
    let xs = args.items in
    let count = c.len.ensures ∙ args.ok.0 ∙ sym (length-map xs shared_tree) in
    done c.enter.new.self _ _ _ c.enter.ensures
    (within_some q.links _ _ (map shared_tree xs) _
    (sym (ap (option_map (λ v. map shared_tree v.items)) c.in-Some.is) ∙ c.in_ok-args.ensures)
    (ap₂ (λ p x. enters ks c.args.context.now.pid p p.frames (record { target = x; named = k.named; by_catch = k.by_catch }) (map shared_tree xs) c.find-number.result) (c.in_ok-push_frame.ensures ∙ ap (λ fr. with_frames q (fr ∷ q.frames)) c.advance.ensures) c.in_ok-target.ensures
    ∙ ap (λ o. enters ks c.args.context.now.pid (step_on q f q.frames) (next_step f ∷ q.frames) (manner_in k) (map shared_tree xs) o)
    (c.find-number.ensures ∙ ap₂ (λ m n. number_from 0 ks (mfa_from m n c.len.result)) c.text.ensures.text c.text-2.ensures.text ∙ ap (λ n. number_from 0 ks (mfa_from k.home.now k.name.now n)) count)))
