use Rattle.std.proofs.Common.{◌∙◌, ◌==◌, sym, ap₂}
use Rattle.std.specs.Option.{unwrap_or}
use Rattle.std.proofs.lemmas.List.{length-map}
use Rattle.tn_picture.specs.Views.{life_seen}
use Rattle.tn_picture.proofs.Places.{position-seen}
use Rattle.tn_picture.proofs.life.column_of.Goals as goal

pub returns : goal.returns
returns c =
    let lives = c.args.lives.now in
    c.unwrap_or.ensures ∙ ap₂ (λ o n. unwrap_or o n) (c.place_of.ensures ∙ position-seen life_seen (λ l. l.pid == c.args.pid) lives) (sym (length-map lives life_seen))
