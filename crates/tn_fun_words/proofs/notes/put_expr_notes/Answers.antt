use Rattle.std.proofs.Common.{◌∙◌, ◌++◌, flat_map, ap, arith}
use Rattle.def_fun_words.specs.Notes.{noted_parts_of, note_in_expr, note_line}
use Rattle.tn_fun.specs.Trees.{fun_expr_seen}
use Rattle.tn_fun_words.specs.Views.{head_names_seen, lent_exprs_seen}
use Rattle.tn_fun_words.proofs.NoteLists.{noted, all_noted}
use Rattle.tn_fun_words.proofs.notes.put_expr_notes.Goals as goal

pub loop-i-init : goal.loop-i-init
loop-i-init g c =
    let text = c.args.bytes.now in
    let notes = note_in_expr (head_names_seen c.args.names.now) in
    ap (λ es. c.args.out.now.items ++ flat_map (note_line text) (flat_map notes es))
    (c.in_ok-put_parts.ensures text ∙ ap (λ ps. lent_exprs_seen text ps ++ noted_parts_of (fun_expr_seen text c.args.expr.now)) c.new-parts.ensures.items)

pub loop-i-preserved : goal.loop-i-preserved
loop-i-preserved g c =
    let text = c.args.bytes.now in
    let ps = c.put_parts.new.out in
    let size = c.len-i-end.ensures ∙ ps.ok.0 in
    noted (λ e. fun_expr_seen text e.now) (note_line text) (note_in_expr (head_names_seen c.args.names.now)) ps.items c.loop-i.i c.index.result.now c.loop-i.out.items c.put_note_where.new.out.items _ (omega (arith, size)) c.index.ensures c.loop-i.invariant
    (c.in_ok-put_note_where.ensures ∙ ap (λ ns. c.loop-i.out.items ++ flat_map (note_line text) ns) c.in_ok-note.ensures)

pub returns : goal.returns
returns g c =
    let text = c.args.bytes.now in
    let ps = c.put_parts.new.out in
    let size = c.len-i-end.ensures ∙ ps.ok.0 in
    all_noted (λ e. fun_expr_seen text e.now) (note_line text) (note_in_expr (head_names_seen c.args.names.now)) ps.items c.loop-i.i c.loop-i.out.items _ (omega (arith, size)) c.loop-i.invariant
