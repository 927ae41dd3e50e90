use Rattle.std.proofs.Common.{ap, sym, ◌∙◌, ◌+◌}
use Rattle.tn_process.specs.Views.{frame_of}
use Rattle.tn_process.proofs.Acts.{call_same, depth_seen}
use Rattle.tn_process.proofs.process.Process.call_event.Goals as goal

pub returns : goal.returns
returns g c =
    let depth = c.len.ensures ∙ c.args.self.now.frames.ok.0 ∙ sym (depth_seen frame_of c.args.self.now.frames.items) in
    call_same _ _ _ _ _ _ _ _ _ _ c.in_ok-function_mfa.ensures c.in_ok-share_arguments.ensures c.in_ok-caller.ensures (ap (λ d. d + 1) depth)
