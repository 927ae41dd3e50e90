use Rattle.std.proofs.Common.{List, Option, ap₂, ◌∙◌}
use Rattle.def_term.specs.Names.{Name}
use Rattle.def_term.specs.Tree.{Tree}
use Rattle.def_node.specs.Event.{Event}
use Rattle.def_node.specs.Process.{Process, continues, exits}
use Rattle.tn_script.specs.Views.{functions_of}
use Rattle.tn_process.specs.StepAnswers.{resumed_in}
use Rattle.tn_process.specs.Views.{exception_view, frame_of, process_seen}
use Rattle.tn_process.proofs.Exceptions.{goes_on, ends}
use Rattle.tn_process.proofs.process.Process.leave_by.Goals as goal

pub returns-in-Some : goal.returns-in-Some
returns-in-Some g c =
    let e = exception_view c.args.exception in
    let left = c.in_ok-target.ensures in
    let resumed = c.in_ok-resume-in-Some.ensures
    ∙ ap₂ (λ (x : Option Name) (t : Tree). resumed_in c.pop_frame.new.self c.in-Some.frame x t) left.target c.in_ok-value-in-Some.ensures in
    ap₂ (λ (p : Process) (es : List Event). continues p es) resumed left.events
    ∙ goes_on (functions_of c.args.context.now.functions.now) c.args.context.now.pid e (process_seen c.args.self.now) (process_seen c.unwind.new.self) (process_seen c.pop_frame.new.self) (frame_of c.in-Some.frame) left.frames c.in-Some.ensures

pub returns : goal.returns
returns g c =
    let e = exception_view c.args.exception in
    let left = c.in_ok-target.ensures in
    ap₂ (λ (t : Tree) (es : List Event). exits c.pop_frame.new.self.links t es) c.in_ok-reason-in-None.ensures left.events
    ∙ ends (functions_of c.args.context.now.functions.now) c.args.context.now.pid e (process_seen c.args.self.now) (process_seen c.unwind.new.self) (process_seen c.pop_frame.new.self) left.frames c.in-None.ensures.0 c.in-None.ensures.1
