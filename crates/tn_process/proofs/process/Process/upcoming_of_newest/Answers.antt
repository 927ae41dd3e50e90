use Rattle.std.proofs.Common.{ap, sym, ◌∙◌, ◌-◌, Some, None, length, slice_get}
use Rattle.tn_script.specs.Views.{function_of, functions_of}
use Rattle.def_outlook.specs.Outlook.{makes_step}
use Rattle.tn_process.specs.Views.{frame_of}
use Rattle.tn_process.proofs.Lookup.{seen_at, none_at}
use Rattle.tn_process.proofs.Outlooks.{upcoming_newest}
use Rattle.tn_process.proofs.process.Process.upcoming_of_newest.Goals as goal

pub returns-in-None : goal.returns-in-None
returns-in-None g c =
    let ks = c.args.functions.now in
    let xs = c.args.self.now.frames.items in
    let f = c.in-Some.frame.now in
    upcoming_newest frame_of (functions_of ks) xs f None
    (ap (λ ys. slice_get ys (length ys - 1)) (sym c.deref.ensures.value) ∙ sym c.in-Some.ensures.value)
    (none_at function_of ks f.function c.in-None.ensures.lookup.3)

pub returns-in-Some-get : goal.returns-in-Some-get
returns-in-Some-get g c =
    let ks = c.args.functions.now in
    let xs = c.args.self.now.frames.items in
    let f = c.in-Some.frame.now in
    let at = c.in-Some-get.ensures.lookup in
    let k = c.in-Some-get.function.now in
    ap (makes_step (function_of k) (frame_of f) (length xs)) c.step_at.ensures
    ∙ upcoming_newest frame_of (functions_of ks) xs f (Some (function_of k))
    (ap (λ ys. slice_get ys (length ys - 1)) (sym c.deref.ensures.value) ∙ sym c.in-Some.ensures.value) (seen_at function_of ks f.function k at.3.0 at.1)
