use Rattle.std.proofs.Common.{◌∙◌, ◌∷◌, ◌++◌, ◌+◌, ◌-◌, map, sym, ap, arith}
use Rattle.def_run.specs.Round.{pass_from}
use Rattle.def_picture.specs.Picture.{life_of}
use Rattle.tn_picture.specs.Views.{life_seen, picture_row_seen}
use Rattle.tn_picture.proofs.Places.{pass-next, one-more}
use Rattle.tn_picture.proofs.life.put_entries.Goals as goal

pub loop-pid-preserved : goal.loop-pid-preserved
loop-pid-preserved g c =
    let l = c.loop-pid in
    let below = c.loop-pid-test.true in
    let end = 100 + c.args.entries in
    let life = life_of (map picture_row_seen c.args.rows.now) in
    let rest = map life (pass_from (end - (l.pid + 1)) (l.pid + 1)) in
    record {
      within = omega (arith, l.invariant.within);
      before = omega (arith, below);
      added = ap (λ ls. map life_seen ls ++ rest) c.in_ok-push.ensures.items
          ∙ one-more life_seen l.lives.items c.life_of.result rest
          ∙ ap (λ x. map life_seen l.lives.items ++ x ∷ rest) c.life_of.ensures
          ∙ ap (λ ps. map life_seen l.lives.items ++ map life ps) (sym (pass-next end l.pid below))
          ∙ l.invariant.added;
    }
