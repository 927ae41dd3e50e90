use Rattle.std.proofs.Common.{Some, None, ◌≡◌, ◌∙◌, refl, sym, ap, length, map, reverse}
use Rattle.std.specs.Prelude.{slice_get}
use Rattle.std.specs.Option.{option_map}
use Rattle.std.proofs.lemmas.Option.{slice_get-map, slice_get_past, slice_get_read}
use Rattle.tn_session.specs.Looks.{parts_of}
use Rattle.tn_session.specs.Views.{function_setting_seen}
use Rattle.tn_session.proofs.Commands.{reverse_mapped}
use Rattle.tn_session.proofs.look.Look.function_setting.Goals as goal

pub returns-in-None : goal.returns-in-None
returns-in-None g c =
    let cs = c.commands.result.now in
    let got : slice_get cs c.args.place ≡ None = slice_get_past cs c.args.place c.in-None.ensures.lookup.3 in
    sym (ap (option_map parts_of)
    (ap (λ ks. slice_get (reverse (map function_setting_seen ks)) c.args.place) (sym c.commands.ensures)
    ∙ ap (λ ks. slice_get ks c.args.place) (reverse_mapped function_setting_seen cs)
    ∙ slice_get-map function_setting_seen cs c.args.place
    ∙ ap (option_map function_setting_seen) got))

pub returns-in-Some : goal.returns-in-Some
returns-in-Some g c =
    let cs = c.commands.result.now in
    let k = c.in-Some.function_setting.now in
    let got : slice_get cs c.args.place ≡ Some k = slice_get_read cs (length cs) c.args.place k refl c.in-Some.ensures.lookup.3.0 c.in-Some.ensures.lookup.1 in
    ap (λ s. Some (s, k.local)) c.borrow_setting.ensures
    ∙ sym (ap (option_map parts_of)
    (ap (λ ks. slice_get (reverse (map function_setting_seen ks)) c.args.place) (sym c.commands.ensures)
    ∙ ap (λ ks. slice_get ks c.args.place) (reverse_mapped function_setting_seen cs)
    ∙ slice_get-map function_setting_seen cs c.args.place
    ∙ ap (option_map function_setting_seen) got))
