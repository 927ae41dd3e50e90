use Rattle.std.proofs.Common.{◌∙◌, ◌++◌, ◌∷◌, [], None, sym, ap}
use Rattle.std.proofs.lemmas.Result.{IfOk-weaker}
use Rattle.def_formats.specs.Sections.{section_lines}
use Rattle.def_formats.specs.Summaries.{load_of, longest, kinds_of_signals, kinds_of_calls, kinds_of_processes, kinds_of_links}
use Rattle.def_formats.specs.JsonRows.{json_line, json_lines}
use Rattle.def_formats.specs.LoadRows.{total_row, rows_of_kinds, greatest_rows}
use Rattle.tn_formats.proofs.LoadLemmas.{one_row, six_rows}
use Rattle.tn_formats.proofs.load_rows.put_session.Goals as goal

pub returns : goal.returns
returns g c =
    let name = c.args.names.name.now in
    let tracer = c.args.names.tracer.now in
    let lines = section_lines c.args.text.now in
    let l4 = c.in_ok-out-4.out.lines.items in
    let l5 = c.in_ok-out-5.out.lines.items in
    let total = total_row name tracer (load_of None lines) in
    let fifth = c.in_ok-out-5.ensures ∙ ap (λ l. l4 ++ json_line (total_row name tracer l)) c.load_of.ensures ∙ ap (λ t. l4 ++ t) (sym (one_row total)) in
    IfOk-weaker c.put_greatest.result _ _
    (λ v h. six_rows c.args.out.lines.items c.in_ok-out.out.lines.items c.in_ok-out-2.out.lines.items c.in_ok-out-3.out.lines.items l4 l5 v.lines.items
    (rows_of_kinds name tracer kinds_of_signals lines) (rows_of_kinds name tracer kinds_of_calls lines) (rows_of_kinds name tracer kinds_of_processes lines) (rows_of_kinds name tracer kinds_of_links lines) (total ∷ []) (greatest_rows name tracer (longest lines))
    c.in_ok-out.ensures c.in_ok-out-2.ensures c.in_ok-out-3.ensures c.in_ok-out-4.ensures fifth
    (h ∙ ap (λ m. l5 ++ json_lines (greatest_rows name tracer m)) c.longest.ensures)) c.put_greatest.ensures
