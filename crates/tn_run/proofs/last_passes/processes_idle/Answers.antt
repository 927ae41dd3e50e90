use Rattle.std.proofs.Common.{◌≡◌, ◌-◌, ◌∷◌, [], subst, rules, arith}
use Rattle.def_run.specs.Round.{pass_from}
use Rattle.tn_trace.proofs.Passes.{pid_more}
use Rattle.tn_run.specs.RestingSeats.{SeatIsStill}
use Rattle.tn_run.proofs.ClosingLemmas.{still_more}
use Rattle.tn_run.proofs.last_passes.processes_idle.Goals as goal

pub loop-pid-preserved : goal.loop-pid-preserved
loop-pid-preserved g c =
    let l = c.loop-pid in
    let idles = rw c.in-Some.is at c.in_ok-now.ensures.idle in
    let same : c.in-Some.now ≡ c.args.front = search rules in
    subst (λ tried. SeatIsStill g.J.JournalName.program c.args.front tried c.idle_front.new.seat) (pid_more (0 ∷ []) l.pid l.auto.pid)
    (still_more g.J.JournalName.program c.args.front (0 ∷ pass_from (l.pid - 100) 100) l.pid l.seat c.idle_front.new.seat c.in-Some.now l.invariant idles same)

pub returns-clause-still : goal.returns-clause-still
returns-clause-still g c = λ all.
    let l = c.loop-pid in
    let low = l.auto.pid in
    let past = c.loop-pid-test.false in
    let last : l.pid ≡ 164 = omega arith in
    subst (λ k. SeatIsStill g.J.JournalName.program c.args.front (0 ∷ pass_from (k - 100) 100) l.seat) last l.invariant
