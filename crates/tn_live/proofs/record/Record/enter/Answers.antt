use Rattle.std.proofs.Common.{◌≡◌, ◌∙◌, ◌+◌, ◌++◌, ◌∷◌, [], List, map, Some, refl, ap, subst, append_assoc}
use Rattle.tn_trace.specs.Items.{item_seen}
use Rattle.tn_live.specs.declared.entry.ItemPlace.{ItemPlace}
use Rattle.tn_live.specs.Journal.{entry}
use Rattle.tn_live.specs.Places.{item_place}
use Rattle.tn_live.specs.RecordTurns.{AddsEntry}
use Rattle.tn_live.proofs.RecordTurns.{enters}
use Rattle.tn_live.proofs.record.Record.enter.Goals as goal

pub show-requires-clause-begins : goal.show-requires-clause-begins
show-requires-clause-begins g c =
    let e = entry c.args.seen.now.number c.args.pick in
    let b = c.requires.begins in
    (b.0 ++ e ∷ [], c.in-Ok-add.ensures.added.entries ∙ ap (λ w. w ++ e ∷ []) b.1 ∙ append_assoc c.args.seen.now.entries.items b.0 (e ∷ []))

pub returns : goal.returns
returns g c =
    let places : c.in-Ok.places.items ≡ map item_place (map item_seen c.args.items.items) = c.in-Ok.ensures ∙ ap (λ xs. map item_place (map item_seen xs)) c.deref.ensures.value in
    let adds = subst (λ (ps : List ItemPlace). AddsEntry c.args.seen.now.number c.args.pick ps c.args.self.now c.add.new.self) places c.in-Ok-add.ensures.added in
    enters g.J.JournalName.program c.args.self.now c.add.new.self c.args.seen.now _ c.args.pick _ c.requires.moved c.requires.seen c.requires.begins adds c.show.ensures.front c.show.ensures.entries c.show.ensures.number
    (ap (λ m. m + 1) c.show.ensures.made) (ap Some c.in-Ok-add.ensures.number) c.show.ensures.number c.in-Ok-add.ensures.number refl
