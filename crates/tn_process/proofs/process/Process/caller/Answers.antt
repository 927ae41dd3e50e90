use Rattle.std.proofs.Common.{ap, sym, ◌∙◌, ◌-◌, length, slice_get}
use Rattle.tn_script.specs.Views.{functions_of}
use Rattle.tn_process.specs.Views.{frame_of}
use Rattle.tn_process.proofs.Acts.{caller_last}
use Rattle.tn_process.proofs.process.Process.caller.Goals as goal

pub returns-in_ok-mfa_at-in-Some : goal.returns-in_ok-mfa_at-in-Some
returns-in_ok-mfa_at-in-Some g c =
    c.in_ok-mfa_at-in-Some.ensures ∙ sym (caller_last frame_of (functions_of c.args.functions.now) c.args.self.now.frames.items c.in-Some.frame.now (ap (λ xs. slice_get xs (length xs - 1)) (sym c.deref.ensures.value) ∙ sym c.in-Some.ensures.value))
