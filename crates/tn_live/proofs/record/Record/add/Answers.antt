use Rattle.std.proofs.Common.{◌∙◌, ◌++◌, ◌∷◌, [], map, refl, sym, ap, arith, rules}
use Rattle.std.proofs.lemmas.List.{map-append}
use Rattle.tn_live.specs.Journal.{entry, made_by}
use Rattle.tn_live.proofs.Journals.{made_bounded, counts_more}
use Rattle.tn_live.proofs.record.Record.add.Goals as goal

pub overflow_add-self : goal.overflow_add-self
overflow_add-self g c = omega (arith, c.requires.counted c.args.seat 0 c.requires.seat, made_bounded c.args.seat c.args.self.now.entries.items, c.requires.few)

pub returns-clause-added : goal.returns-clause-added
returns-clause-added g c = record {
  front = c.add.ensures (search rules) ∙ ap (λ w. w ++ entry c.args.seat c.args.pick ∷ []) c.requires.reached ∙ sym c.push_reserved.ensures.items;
  core = refl;
  entries = c.push_reserved.ensures.items;
  places = ap (map (λ v. v.items)) c.push_reserved-2.ensures.items ∙ map-append _ c.args.self.now.places.items _;
  counted = λ seat d below.
      counts_more c.args.self.now.counts c.args.self.now.entries.items c.args.seat c.args.pick _ (search rules) c.requires.counted (c.requires.counted c.args.seat 0 c.requires.seat) seat d below
      ∙ ap (made_by seat) (sym c.push_reserved.ensures.items);
}
