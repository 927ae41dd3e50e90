use Rattle.std.proofs.Common.{◌∙◌, sym, ap, ap₂, map, length}
use Rattle.std.specs.List.{position}
use Rattle.std.specs.Option.{unwrap_or}
use Rattle.std.proofs.lemmas.List.{length-map}
use Rattle.def_picture.specs.Picture.{Life, is_birth, is_death}
use Rattle.tn_picture.specs.Views.{picture_row_seen}
use Rattle.tn_picture.proofs.Places.{position-seen}
use Rattle.tn_picture.proofs.life.life_of.Goals as goal

pub returns : goal.returns
returns g c =
    let rows = c.args.rows.now in
    let p = c.args.pid in
    ap₂ (λ a b. let l : Life = record { pid = p; first = a; last = b; depth = c.deepest_frame.result } in l)
    (c.unwrap_or.ensures ∙ ap (λ o. unwrap_or o 0) (c.birth_row.ensures ∙ position-seen picture_row_seen (λ r. is_birth p r.shape) rows))
    (c.unwrap_or-2.ensures ∙ ap₂ (λ o n. unwrap_or o n) (c.death_row.ensures ∙ position-seen picture_row_seen (λ r. is_death p r.shape) rows) (sym (length-map rows picture_row_seen)))
    ∙ ap (λ d. let l : Life = record { pid = p; first = unwrap_or (position (λ r. is_birth p r.shape) (map picture_row_seen rows)) 0; last = unwrap_or (position (λ r. is_death p r.shape) (map picture_row_seen rows)) (length (map picture_row_seen rows)); depth = d } in l) c.deepest_frame.ensures
