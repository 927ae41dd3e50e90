use Rattle.std.proofs.Common.{◌∷◌, sym, ap, refl}
use Rattle.std.specs.Prelude.{option_to_list}
use Rattle.std.specs.Option.{option_map}
use Rattle.tn_flags.specs.Views.{event_of}
use Rattle.tn_guard.specs.Views.{value_seen}
use Rattle.tn_text.proofs.Growth.{grows_on, on_failed}
use Rattle.tn_session.proofs.Texts.{twice, more_at_the_end, grows_by}
use Rattle.tn_session.proofs.message.Message.put.Goals as goal

pub returns-clause-ok : goal.returns-clause-ok
returns-clause-ok g c =
    let m = c.args.self.now in
    twice _ _ _ _ _ _
    (twice _ _ _ _ _ _ c.in_ok-put_elements.ensures.ok c.in_ok-put_last.ensures.ok
    (ap (λ s. 123 ∷ s) (sym (more_at_the_end m.short (event_of m.event.now) (option_to_list (option_map value_seen m.last))))))
    c.in_ok-push.ensures.items refl

pub returns-in_err-put_elements-clause-ok : goal.returns-in_err-put_elements-clause-ok
returns-in_err-put_elements-clause-ok g c = on_failed c.from_residual.result _ _ c.from_residual.ensures.1

pub returns-in_err-put_elements-clause-grows : goal.returns-in_err-put_elements-clause-grows
returns-in_err-put_elements-clause-grows g c = c.put_elements.ensures.grows

pub returns-in_err-put_last-clause-ok : goal.returns-in_err-put_last-clause-ok
returns-in_err-put_last-clause-ok g c = on_failed c.from_residual-in_err-put_last.result _ _ c.from_residual-in_err-put_last.ensures.1

pub returns-in_err-put_last-clause-grows : goal.returns-in_err-put_last-clause-grows
returns-in_err-put_last-clause-grows g c = grows_on c.put_elements.ensures.grows c.put_last.ensures.grows

pub returns-in_err-push-clause-ok : goal.returns-in_err-push-clause-ok
returns-in_err-push-clause-ok g c = on_failed c.from_residual-in_err-push.result _ _ c.from_residual-in_err-push.ensures.1

pub returns-clause-grows : goal.returns-clause-grows
returns-clause-grows g c = grows_on c.put_elements.ensures.grows (grows_on c.put_last.ensures.grows (grows_by _ c.in_ok-push.ensures.items))
