use Rattle.std.proofs.Common.{◌≡◌, ◌∙◌, ◌++◌, ◌∷◌, [], ◌-◌, ap, arith}
use Rattle.def_run.specs.Round.{pass_from}
use Rattle.tn_trace.proofs.Passes.{pid_more}
use Rattle.tn_trace.proofs.pass.pass_picks.Goals as goal

pub loop-pid-preserved : goal.loop-pid-preserved
loop-pid-preserved g c =
    let l = c.loop-pid in
    c.in_ok-push-2.ensures.items ∙ ap (λ xs. xs ++ l.pid ∷ []) l.invariant ∙ pid_more (0 ∷ []) l.pid l.auto.pid

pub returns : goal.returns
returns g c =
    let l = c.loop-pid in
    let low = l.auto.pid in
    let past = c.loop-pid-test.false in
    let last : l.pid ≡ 164 = omega arith in
    l.invariant ∙ ap (λ k. (0 ∷ []) ++ pass_from (k - 100) 100) last
