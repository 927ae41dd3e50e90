-- One event, step by step.
use Rattle.std.proofs.Common.{◌≡◌, ◌∙◌, ℕ, List, Option, sym, ap, ap₂}
use Rattle.def_term.specs.Tree.{Tree}
use Rattle.def_spec.specs.Expressions.{Effect}
use Rattle.def_node.specs.Event.{Event}
use Rattle.def_session.specs.State.{live, Session}
use Rattle.def_session.specs.Messages.{process_of}
use Rattle.def_session.specs.Session.{EventResult, inherit, effects_of, all_affected, finish, message_after, reported_by_effects, reported_for, reported_in}

abbrev pub told_is : Session → Option Tree → EventResult
told_is s m = (s, m)

pub effects_case : (s t u : Session) (e : Event) (es : List Effect) (self_pid : ℕ) (m : Option Tree)
    → self_pid ≡ process_of e → t ≡ all_affected self_pid s es → m ≡ message_after t e es → u ≡ finish t e es → reported_by_effects s e es ≡ told_is u m
effects_case s t u e es self_pid m own affects tells ends =
    sym (ap₂ told_is ends tells ∙ ap (λ x. told_is (finish x e es) (message_after x e es)) (affects ∙ ap (λ p. all_affected p s es) own))

pub live_case : (s t : Session) (e : Event) (q : Option (List Effect)) (r : EventResult) → t ≡ inherit s e → q ≡ effects_of t e → reported_for t e q ≡ r → reported_in live s e ≡ r
live_case s t e q r inherits evaluates tells = ap (λ x. reported_for x e (effects_of x e)) (sym inherits) ∙ ap (reported_for t e) (sym evaluates) ∙ tells
