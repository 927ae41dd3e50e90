use Rattle.std.proofs.Common.{ap, ap₂, ◌∙◌, ◌∷◌, [], List, arith}
use Rattle.def_node.specs.Event.{Event, Call, called}
use Rattle.def_node.specs.Process.{Process, continues}
use Rattle.tn_process.proofs.Acts.{here, otherwise, ended, depth_at_limit, depth_below}
use Rattle.tn_process.specs.Views.{frame_of}
use Rattle.tn_process.proofs.process.Process.enter_function.Goals as goal

pub returns-then-len-ge-FRAMES : goal.returns-then-len-ge-FRAMES
returns-then-len-ge-FRAMES g c = ended c.args.self.now _ _ _ c.over_limit.ensures (here _ _ _ (depth_at_limit frame_of c.args.self.now.frames.items (omega arith)))

pub returns : goal.returns
returns g c =
    otherwise _ _ _ _ (depth_below frame_of c.args.self.now.frames.items (omega arith))
    (ap₂ (λ (p : Process) (es : List Event). continues p es) c.in_ok-push_callee.ensures (c.in_ok-events.ensures ∙ ap (λ (k : Call). called c.args.context.now.pid k ∷ []) c.in_ok-call.ensures))
