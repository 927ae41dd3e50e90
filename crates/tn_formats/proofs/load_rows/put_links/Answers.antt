use Rattle.std.proofs.Common.{codes}
use Rattle.std.proofs.lemmas.Result.{IfOk-weaker}
use Rattle.def_formats.specs.Sections.{section_lines}
use Rattle.def_formats.specs.LoadRows.{rows_of_kind}
use Rattle.tn_formats.proofs.LoadLemmas.{four_rows}
use Rattle.tn_formats.proofs.load_rows.put_links.Goals as goal

pub returns : goal.returns
returns g c =
    let rows = rows_of_kind c.args.names.name.now c.args.names.tracer.now (section_lines c.args.text.now) in
    IfOk-weaker c.put_kind-4.result _ _
    (λ v h. four_rows c.args.out.lines.items c.in_ok-out.out.lines.items c.in_ok-out-2.out.lines.items c.in_ok-out-3.out.lines.items v.lines.items (rows (codes "link")) (rows (codes "unlink")) (rows (codes "getting_linked")) (rows (codes "getting_unlinked")) c.in_ok-out.ensures c.in_ok-out-2.ensures c.in_ok-out-3.ensures h) c.put_kind-4.ensures
