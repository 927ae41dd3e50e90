use Rattle.std.proofs.Common.{◌≡◌, ◌++◌, map, drop, flat_map}
use Rattle.def_picture.specs.Svg.{report_svg}
use Rattle.tn_picture.specs.Views.{life_seen, report_seen, row_shape_seen}
use Rattle.tn_picture.proofs.svg.put_reports.Given as goal

abbrev pub invariant-loop-report : goal.invariant-loop-report
invariant-loop-report g l =
    l.out.items ++ flat_map (report_svg (map life_seen l.lives) l.y (row_shape_seen l.shape)) (map report_seen (drop l.report-index l.reports))
    ≡ l.fn.out.items ++ flat_map (report_svg (map life_seen l.lives) l.y (row_shape_seen l.shape)) (map report_seen l.reports)
