use Rattle.std.proofs.Common.{codes}
use Rattle.std.proofs.lemmas.Result.{IfOk-weaker}
use Rattle.def_formats.specs.Sections.{section_lines}
use Rattle.def_formats.specs.LoadRows.{rows_of_kind}
use Rattle.tn_formats.proofs.LoadLemmas.{three_rows}
use Rattle.tn_formats.proofs.load_rows.put_processes.Goals as goal

pub returns : goal.returns
returns g c =
    let rows = rows_of_kind c.args.names.name.now c.args.names.tracer.now (section_lines c.args.text.now) in
    IfOk-weaker c.put_kind-3.result _ _
    (λ v h. three_rows c.args.out.lines.items c.in_ok-out.out.lines.items c.in_ok-out-2.out.lines.items v.lines.items (rows (codes "spawn")) (rows (codes "spawned")) (rows (codes "exit")) c.in_ok-out.ensures c.in_ok-out-2.ensures h) c.put_kind-3.ensures
