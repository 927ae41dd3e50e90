use Rattle.std.proofs.Common.{◌∙◌, ap, map}
use Rattle.def_session.specs.State.{flags_at}
use Rattle.tn_term.specs.SharedTree.{shared_tree}
use Rattle.tn_term.specs.Views.{mfa_seen}
use Rattle.def_spec.specs.Flags.{after_spawn, after_link}
use Rattle.tn_flags.specs.Views.{flags_of}
use Rattle.tn_session.specs.Views.{state_seen}
use Rattle.tn_session.proofs.States.{spawn_case, link_case}
use Rattle.tn_session.proofs.state.State.inherit.Goals as goal

pub returns-in-Spawned-clause-state : goal.returns-in-Spawned-clause-state
returns-in-Spawned-clause-state g c =
    let s = c.args.self.now in
    rw c.in-Spawned.is (spawn_case (state_seen s) (state_seen (record s { alive = c.add.new.self })) (state_seen c.set_flags.new.self) (state_seen c.set_flags-in-Spawned.new.self) c.in-Spawned.parent c.in-Spawned.pid _ _ (mfa_seen c.in-Spawned.mfa) (map shared_tree c.in-Spawned.args.items)
    (ap (λ a. record (state_seen s) { alive = a }) c.add.ensures) c.set_flags.ensures.state c.set_flags-in-Spawned.ensures.state
    (c.inherit_spawn.ensures ∙ ap (λ f. after_spawn f (flags_of s.new_process_flags)) c.flags_at.ensures))

pub returns-in-GettingLinked-clause-state : goal.returns-in-GettingLinked-clause-state
returns-in-GettingLinked-clause-state g c =
    let s = c.args.self.now in
    rw c.in-GettingLinked.is (link_case (state_seen s) (state_seen c.set_flags-in-GettingLinked.new.self) (state_seen c.set_flags-in-GettingLinked-2.new.self) c.in-GettingLinked.other c.in-GettingLinked.pid _ _
    c.set_flags-in-GettingLinked.ensures.state c.set_flags-in-GettingLinked-2.ensures.state
    (c.inherit_link.ensures ∙ ap (λ f. after_link f (flags_of c.flags_at-in-GettingLinked-2.result)) c.flags_at-in-GettingLinked.ensures ∙ ap (λ f. after_link (flags_at (state_seen s) c.in-GettingLinked.other) f) c.flags_at-in-GettingLinked-2.ensures))
