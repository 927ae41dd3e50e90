use Rattle.std.proofs.Common.{ℕ, ap, ap₂, sym, ◌∙◌, ◌+◌, ◌∷◌, [], List}
use Rattle.def_term.specs.Tree.{Tree}
use Rattle.def_term.specs.Names.{word}
use Rattle.def_script.specs.Program.{mfa_of}
use Rattle.def_node.specs.Event.{Event, returned}
use Rattle.def_node.specs.Process.{Process, continues, exits, leaves_to}
use Rattle.tn_term.specs.SharedTree.{shared_tree}
use Rattle.tn_script.specs.Views.{function_of}
use Rattle.tn_process.specs.StepAnswers.{resumed_in}
use Rattle.tn_process.specs.Views.{frame_of, process_seen}
use Rattle.tn_process.proofs.Acts.{depth_seen}
use Rattle.tn_process.proofs.process.Process.leave.Goals as goal

pub returns-in_ok-events-in-Some : goal.returns-in_ok-events-in-Some
returns-in_ok-events-in-Some g c =
    let q = process_seen c.args.self.now in
    let x = c.args.target.now in
    let t = shared_tree c.args.value in
    let event : ℕ → Event = λ d. returned c.args.context.now.pid (mfa_of (function_of c.args.function.now)) t (d + 1) in
    let depth = c.len-depth.ensures ∙ c.args.self.now.frames.ok.0 ∙ sym (depth_seen frame_of c.args.self.now.frames.items) in
    ap₂ (λ (p : Process) (es : List Event). continues p es)
    (c.in_ok-resume-in-Some.ensures ∙ ap (λ (v : Tree). resumed_in c.pop_frame.new.self c.in-Some.caller x v) c.in_ok-result-in-Some.ensures) c.in_ok-events-in-Some.ensures
    ∙ sym (ap (λ (p : Process). leaves_to p x p.frames t (event c.len-depth.result)) c.in-Some.ensures)
    ∙ ap (λ d. leaves_to q x q.frames t (event d)) depth

pub returns-in_ok-events-in-None : goal.returns-in_ok-events-in-None
returns-in_ok-events-in-None g c =
    let q = process_seen c.args.self.now in
    let x = c.args.target.now in
    let t = shared_tree c.args.value in
    let event : ℕ → Event = λ d. returned c.args.context.now.pid (mfa_of (function_of c.args.function.now)) t (d + 1) in
    let depth = c.len-depth.ensures ∙ c.args.self.now.frames.ok.0 ∙ sym (depth_seen frame_of c.args.self.now.frames.items) in
    ap₂ (λ (r : Tree) (es : List Event). exits c.pop_frame.new.self.links r es) c.in_ok-reason-in-None.ensures c.in_ok-events-in-None.ensures
    ∙ ap (λ (p : Process). exits p.links (word "normal") (event c.len-depth.result ∷ [])) c.in-None.ensures.0
    ∙ sym (ap (λ fs. leaves_to q x fs t (event c.len-depth.result)) c.in-None.ensures.1)
    ∙ ap (λ d. leaves_to q x q.frames t (event d)) depth
