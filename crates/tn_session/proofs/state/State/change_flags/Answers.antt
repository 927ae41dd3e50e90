use Rattle.std.proofs.Common.{◌∙◌, sym, ap}
use Rattle.def_term.specs.Alive.{living_count}
use Rattle.def_session.specs.Commands.{flags_set, existing_changed, number_term}
use Rattle.tn_flags.specs.Views.{flags_of}
use Rattle.tn_session.specs.Views.{state_seen}
use Rattle.tn_session.specs.Procs.{procs_seen}
use Rattle.tn_session.proofs.Dones.{with_reply}
use Rattle.tn_session.proofs.state.State.change_flags.Goals as goal

pub returns-in-Existing-clause-done : goal.returns-in-Existing-clause-done
returns-in-Existing-clause-done g c =
    let s = state_seen c.args.self.now in
    ap (λ p. flags_set s (procs_seen p) c.args.on (flags_of c.args.flags)) c.in-Existing.is
    ∙ ap (λ x. with_reply x (number_term (living_count s.alive))) (sym c.change_existing.ensures.done)
    ∙ ap (with_reply (state_seen c.change_existing.new.self)) (sym c.living_count-count.ensures)

pub returns-in-New-clause-done : goal.returns-in-New-clause-done
returns-in-New-clause-done g c =
    let s = state_seen c.args.self.now in
    ap (λ p. flags_set s (procs_seen p) c.args.on (flags_of c.args.flags)) c.in-New.is
    ∙ ap (λ f. with_reply (record s { new_process_flags = f }) (number_term 0)) (sym c.change_flags-self.ensures)
    ∙ ap (with_reply (record s { new_process_flags = flags_of c.change_flags-self.result })) (sym c.count_reply.ensures)

pub returns-in-All-clause-done : goal.returns-in-All-clause-done
returns-in-All-clause-done g c =
    let s = state_seen c.args.self.now in
    let F = flags_of c.args.flags in
    let all = number_term (living_count s.alive) in
    ap (λ p. flags_set s (procs_seen p) c.args.on F) c.in-All.is
    ∙ ap (λ f. with_reply (existing_changed c.args.on F (record s { new_process_flags = f })) all) (sym c.change_flags-self-in-All.ensures)
    ∙ ap (λ x. with_reply x all) (sym c.change_existing-in-All.ensures.done)
    ∙ ap (with_reply (state_seen c.change_existing-in-All.new.self)) (sym c.living_count-count-in-All.ensures)
