use Rattle.std.proofs.Common.{ap, sym, ◌∙◌}
use Rattle.def_node.specs.Process.{waits, runs}
use Rattle.tn_script.specs.Views.{function_of, functions_of}
use Rattle.tn_process.specs.Views.{process_seen, frame_of}
use Rattle.tn_process.proofs.Lookup.{seen_at}
use Rattle.tn_process.proofs.Acts.{done, run_here}
use Rattle.tn_process.proofs.process.Process.run.Goals as goal

pub returns-in-None : goal.returns-in-None
returns-in-None g c =
    let q = process_seen c.args.self.now in
    ap waits c.in-None.ensures.0 ∙ sym (ap (λ fs. runs (functions_of c.args.context.now.functions.now) c.args.context.now.pid c.args.context.now.child q fs) c.in-None.ensures.1)

pub returns-in-Some-get : goal.returns-in-Some-get
returns-in-Some-get g c =
    let ks = functions_of c.args.context.now.functions.now in
    let k = c.in-Some-get.function.now in
    let f = c.in-Some.frame in
    let at = c.in-Some-get.ensures.lookup in
    let here = seen_at function_of c.args.context.now.functions.now f.function k at.3.0 at.1 in
    done c.run_frame.new.self _ _ _ c.run_frame.ensures
    (run_here ks c.args.context.now.pid c.args.context.now.child (process_seen c.args.self.now) (process_seen c.pop_frame.new.self) (frame_of f) (function_of k) c.in-Some.ensures here)
