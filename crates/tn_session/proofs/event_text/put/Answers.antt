use Rattle.std.proofs.Common.{◌∷◌, sym, ap, refl}
use Rattle.std.specs.Prelude.{option_to_list}
use Rattle.std.specs.Option.{option_map}
use Rattle.tn_flags.specs.Views.{event_of}
use Rattle.tn_guard.specs.Views.{value_seen}
use Rattle.tn_session.proofs.Texts.{twice, more_at_the_end}
use Rattle.tn_session.proofs.event_text.put.Goals as goal

pub returns-clause-ok : goal.returns-clause-ok
returns-clause-ok g c =
    let m = c.args.message.now in
    twice _ _ _ _ _ _
    (twice _ _ _ _ _ _ c.in_ok-copy_elements.ensures.ok c.in_ok-put_last.ensures.ok
    (ap (λ s. 123 ∷ s) (sym (more_at_the_end m.short (event_of c.args.event.now) (option_to_list (option_map value_seen m.last))))))
    c.in_ok-push.ensures.items refl
