use Rattle.std.proofs.Common.{◌∙◌, arith}
use Rattle.def_fun_words.specs.Notes.{row_notes, note_line}
use Rattle.tn_fun.specs.Clauses.{guard_seen}
use Rattle.tn_fun_words.specs.Views.{head_names_seen}
use Rattle.tn_fun_words.proofs.NoteLists.{noted, all_noted}
use Rattle.tn_fun_words.proofs.notes.put_guard_notes.Goals as goal

pub loop-i-preserved : goal.loop-i-preserved
loop-i-preserved g c =
    let text = c.args.bytes.now in
    let xs = c.args.guards.now in
    let size = c.len-i-end.ensures ∙ xs.ok.0 in
    noted (guard_seen text) (note_line text) (row_notes (head_names_seen c.args.names.now)) xs.items c.loop-i.i c.index.result.now c.loop-i.out.items c.put_row_notes.new.out.items _ (omega (arith, size)) c.index.ensures c.loop-i.invariant c.in_ok-put_row_notes.ensures

pub returns : goal.returns
returns g c =
    let text = c.args.bytes.now in
    let xs = c.args.guards.now in
    let size = c.len-i-end.ensures ∙ xs.ok.0 in
    all_noted (guard_seen text) (note_line text) (row_notes (head_names_seen c.args.names.now)) xs.items c.loop-i.i c.loop-i.out.items _ (omega (arith, size)) c.loop-i.invariant
