use Rattle.std.proofs.Common.{◌∙◌, sym, ap}
use Rattle.std.specs.Prelude.{slice_get}
use Rattle.tn_live.specs.Places.{message_of_place}
use Rattle.tn_live.proofs.places.find_message.Goals as goal

pub returns-in-Ok-Some : goal.returns-in-Ok-Some
returns-in-Ok-Some g c = λ picks is.
    let h = rw (is, c.in-Ok-Some.field-0-is) at c.in-Ok-Some.ensures.listing in
    c.nth_message.ensures ∙ ap (λ ms. slice_get ms c.args.place.index) h.2 ∙ sym (ap (message_of_place c.args.core.now.program picks c.args.place.index) h.1)

pub returns-in-Ok-None : goal.returns-in-Ok-None
returns-in-Ok-None g c = λ picks is.
    let h = rw (is, c.in-Ok-None.field-0-is) at c.in-Ok-None.ensures.listing in sym (ap (message_of_place c.args.core.now.program picks c.args.place.index) h)

pub returns-in-Err : goal.returns-in-Err
returns-in-Err g c = λ picks is. absurd (rw is at c.in-Err.ensures.listing)
