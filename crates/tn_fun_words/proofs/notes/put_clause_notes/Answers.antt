use Rattle.std.proofs.Common.{◌∙◌, ◌++◌, flat_map, ap}
use Rattle.def_fun.specs.Variables.{matched_part, names_of}
use Rattle.def_fun_words.specs.Notes.{note_in_head, row_notes, noted_parts_of, note_line}
use Rattle.tn_fun.specs.Trees.{fun_row_seen}
use Rattle.tn_fun.specs.Clauses.{fun_head_seen, guards_seen}
use Rattle.tn_fun_words.specs.Views.{head_names_seen}
use Rattle.tn_fun_words.proofs.NoteLists.{three_ok, last_named}
use Rattle.tn_fun_words.proofs.notes.put_clause_notes.Goals as goal

pub returns : goal.returns
returns g c =
    let text = c.args.bytes.now in
    let k = c.args.clause.now in
    let line = note_line text in
    let head = fun_head_seen text k.head in
    let named = c.in_ok-names.ensures in
    three_ok c.put_row_notes.result line (flat_map (note_in_head (names_of head)) (noted_parts_of (matched_part head))) (flat_map (row_notes (names_of head)) (guards_seen text k.guards.items)) (row_notes (names_of head) (fun_row_seen text k.body.items))
    c.args.out.now.items c.put_head_notes.new.out.items c.put_guard_notes.new.out.items c.put_row_notes.new.out.items
    (c.in_ok-put_head_notes.ensures ∙ ap (λ ns. c.args.out.now.items ++ flat_map line (flat_map (note_in_head ns) (noted_parts_of (matched_part head)))) named)
    (c.in_ok-put_guard_notes.ensures ∙ ap (λ ns. c.put_head_notes.new.out.items ++ flat_map line (flat_map (row_notes ns) (guards_seen text k.guards.items))) named)
    (last_named c.put_row_notes.result (λ ns. c.put_guard_notes.new.out.items ++ flat_map line (row_notes ns (fun_row_seen text k.body.items))) (head_names_seen c.in_ok-names.names) (names_of head) c.put_row_notes.new.out.items named c.put_row_notes.ensures)
