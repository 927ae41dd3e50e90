use Rattle.std.proofs.Common.{◌∙◌, sym}
use Rattle.tn_flags.specs.Views.{event_of}
use Rattle.tn_running_node.proofs.Phases.{saw_elsewhere, saw_live}
use Rattle.tn_running_node.proofs.pair.SessionPair.see.Goals as goal

pub returns-then-not-branch-clause-ok : goal.returns-then-not-branch-clause-ok
returns-then-not-branch-clause-ok g c = λ o living p h.
    saw_elsewhere o living c.args.step (event_of c.args.event.now) p c.see_elsewhere.new.self c.args.out.now c.none.result (sym c.if-not-branch.true ∙ c.in_ok-is_live.ensures o living p h) (c.in_ok-see_elsewhere.ensures o living p h) c.none.ensures.differs c.none.ensures.open_lines

pub returns-clause-ok : goal.returns-clause-ok
returns-clause-ok g c = λ o living p h.
    saw_live o living c.args.step c.args.event.now p c.see_both.new.self c.in_ok-is_determined.is_determined c.args.out.now c.see_both.new.out c.in_ok-kinds.kinds (sym c.if-not-branch.false ∙ c.in_ok-is_live.ensures o living p h)
    (c.in_ok-is_determined.ensures o living p h) (c.in_ok-kinds.ensures.ok o living p h)
