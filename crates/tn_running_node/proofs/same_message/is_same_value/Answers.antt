use Rattle.std.proofs.Common.{◌∙◌, [], ◌∷◌, sym, ap}
use Rattle.def_term.proofs.Same.{same-is}
use Rattle.tn_guard.specs.Views.{value_seen}
use Rattle.tn_session.specs.Messages.{last_seen}
use Rattle.tn_running_node.proofs.same_message.is_same_value.Goals as goal

pub returns-in-Some-Some : goal.returns-in-Some-Some
returns-in-Some-Some g c = λ h.
    ap (λ v. last_seen v) c.in-Some-Some.is-0
    ∙ ap (λ t. t ∷ []) (same-is (value_seen c.in-Some-Some.one) (value_seen c.in-Some-Some.other) (sym c.same.ensures ∙ h))
    ∙ sym (ap (λ v. last_seen v) c.in-Some-Some.is-1)
