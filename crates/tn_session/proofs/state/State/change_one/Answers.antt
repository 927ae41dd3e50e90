use Rattle.std.proofs.Common.{◌∙◌, sym, ap, if◌then◌else◌}
use Rattle.def_session.specs.State.{flags_at, with_flags}
use Rattle.def_session.specs.Commands.{changed_flags, refuse, number_term}
use Rattle.tn_flags.specs.Views.{flags_of}
use Rattle.tn_session.specs.Views.{state_seen}
use Rattle.tn_session.proofs.Dones.{with_reply}
use Rattle.tn_session.proofs.state.State.change_one.Goals as goal

pub returns-clause-done : goal.returns-clause-done
returns-clause-done g c =
    let s = state_seen c.args.self.now in
    let n = c.args.pid in
    let F = flags_of c.args.flags in
    ap (λ b. if b then with_reply (with_flags s n (changed_flags c.args.on F (flags_at s n))) (number_term 1) else refuse s) (sym c.has.ensures ∙ c.if-not-has.false)
    ∙ ap (λ f. with_reply (with_flags s n (changed_flags c.args.on F f)) (number_term 1)) (sym c.flags_at.ensures)
    ∙ ap (λ f. with_reply (with_flags s n f) (number_term 1)) (sym c.change_flags.ensures)
    ∙ ap (λ x. with_reply x (number_term 1)) (sym c.set_flags.ensures.state)
    ∙ ap (with_reply (state_seen c.set_flags.new.self)) (sym c.count_reply.ensures)
