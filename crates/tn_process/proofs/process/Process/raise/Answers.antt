use Rattle.std.proofs.Common.{◌∷◌, ap, sym, ◌∙◌}
use Rattle.std.specs.Option.{option_map}
use Rattle.def_node.specs.Process.{Process, Exception, exception_of, leaves_by}
use Rattle.tn_term.specs.SharedTree.{shared_tree}
use Rattle.tn_flags.specs.Views.{class_of}
use Rattle.tn_script.specs.Views.{functions_of}
use Rattle.tn_process.specs.Views.{frame_of, process_seen}
use Rattle.tn_process.proofs.Acts.{done, ended, within_none, within_some}
use Rattle.tn_process.proofs.Exceptions.{over_frames}
use Rattle.tn_process.proofs.process.Process.raise.Goals as goal

pub returns-in_default : goal.returns-in_default
returns-in_default g c =
    ended c.args.self.now _ _ _ c.over_limit.ensures
    (within_none c.args.self.now.links _ _ (ap (option_map shared_tree) (sym c.in_default.is) ∙ c.in_ok-value.ensures))

pub returns : goal.returns
returns g c =
    let ks = functions_of c.args.context.now.functions.now in
    let n = c.args.context.now.pid in
    let q = process_seen c.args.self.now in
    let p = process_seen c.push_frame.new.self in
    let fs = frame_of c.args.frame ∷ q.frames in
    let class = class_of c.args.class in
    let t = shared_tree c.in-Some.value in
    done c.leave_by.new.self _ _ _ c.leave_by.ensures
    (within_some q.links _ _ t _ (ap (option_map shared_tree) (sym c.in-Some.is) ∙ c.in_ok-value.ensures)
    (ap (λ (e : Exception). leaves_by ks n p p.frames e) c.in_ok-exception.ensures
    ∙ ap (λ (r : Process). leaves_by ks n r r.frames (exception_of r.frames class t)) c.in_ok-push_frame.ensures
    ∙ over_frames ks n q fs fs (exception_of fs class t)))
