use Rattle.std.proofs.Common.{◌-◌, ap, sym, ◌∙◌, subst}
use Rattle.std.specs.Option.{option_map}
use Rattle.def_text.specs.Forms.{after_stops, FormBegins}
use Rattle.def_text.specs.Places.{place_at}
use Rattle.def_text.proofs.Starts.{offset_is_one}
use Rattle.def_refusal.proofs.OneItem.{offset_one}
use Rattle.tn_script.specs.Items.{form_item_of}
use Rattle.tn_refusal.specs.Locations.{location_of_item, IsItemMark}
use Rattle.tn_refusal.specs.declared.location.Location.TheVariants.{InForm}
use Rattle.tn_refusal.proofs.location.item_location.Goals as goal

pub returns-in-Some : goal.returns-in-Some
returns-in-Some c = λ listable.
    let i = form_item_of c.in-Some.item in
    subst (λ o. IsItemMark c.args.text.now c.args.form (option_map form_item_of o) c.item_spot.result) (sym c.in-Some.is)
    (λ at begins. c.item_spot.ensures ∙ ap (location_of_item c.args.text.now c.args.form i) (offset_one c.args.text.now c.args.form i c.item_offset.result at (c.item_offset.ensures listable) begins))

pub returns-in-None : goal.returns-in-None
returns-in-None c = λ listable.
    let ahead = c.requires.tokens listable.tokens (record { are = listable.are; good = listable.good }) in
    let start : FormBegins c.args.text.now c.args.form c.next_start.result =
    record { tokens = listable.tokens; are = listable.are; offset = c.next_start.ensures.tokens (after_stops (c.args.form - 1) listable.tokens) ahead } in
    subst (λ o. IsItemMark c.args.text.now c.args.form (option_map form_item_of o) (InForm c.line_column_of.result.line c.args.form)) (sym c.in-None.is)
    (λ at begins.
    ap (λ n. InForm n c.args.form)
    (c.line_column_of.ensures.line ∙ ap (λ k. (place_at c.args.text.now k).line) (offset_is_one c.args.text.now c.args.form c.next_start.result at start begins)))
