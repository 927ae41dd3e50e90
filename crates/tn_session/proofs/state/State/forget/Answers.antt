use Rattle.std.proofs.Common.{ap}
use Rattle.tn_session.specs.Views.{state_seen}
use Rattle.tn_session.proofs.States.{exit_case}
use Rattle.tn_session.proofs.state.State.forget.Goals as goal

pub returns-clause-state : goal.returns-clause-state
returns-clause-state g c = λ t.
    let s = c.args.self.now in
    exit_case (state_seen s) (state_seen (record s { alive = c.remove.new.self })) (state_seen c.set_flags.new.self) (state_seen c.unmark_all.new.self) c.args.pid _ t
    (ap (λ a. record (state_seen s) { alive = a }) c.remove.ensures) c.set_flags.ensures.state c.none.ensures c.unmark_all.ensures.state
