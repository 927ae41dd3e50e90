use Rattle.std.proofs.Common.{map, codes}
use Rattle.tn_text.proofs.Growth.{on_done}
use Rattle.def_picture.specs.Svg.{shape_svg, dashed_svg}
use Rattle.tn_picture.specs.Views.{life_seen, row_shape_seen}
use Rattle.tn_picture.proofs.Texts.{three_texts}
use Rattle.tn_picture.proofs.svg.put_dashed.Goals as goal

pub returns : goal.returns
unfolding dashed_svg
returns g c =
    on_done c.put_text-2.result
    (λ h.
    three_texts c.args.out.now.items (codes "<g fill=\"none\" stroke=\"#777\" stroke-dasharray=\"3 1\">") (shape_svg (map life_seen c.args.lives.now) c.args.y (row_shape_seen c.args.shape)) (codes "</g>\n") c.put_text.new.out.items c.put_shape.new.out.items c.put_text-2.new.out.items
    c.in_ok-put_text.ensures c.in_ok-put_shape.ensures h)
    c.put_text-2.ensures
