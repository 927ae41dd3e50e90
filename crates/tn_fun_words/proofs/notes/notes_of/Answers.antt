use Rattle.std.proofs.Common.{◌∙◌, flat_map, arith}
use Rattle.def_fun_words.specs.Notes.{clause_notes, fun_notes, note_line}
use Rattle.tn_fun.specs.Clauses.{fun_clause_seen, fun_clauses_seen}
use Rattle.tn_fun_words.proofs.FunAnswers.{notes_said}
use Rattle.tn_fun_words.proofs.NoteLists.{noted, all_noted}
use Rattle.tn_fun_words.proofs.notes.notes_of.Goals as goal

pub loop-i-preserved : goal.loop-i-preserved
loop-i-preserved g c =
    let text = c.args.fun.now.bytes.now in
    let ks = c.args.fun.now.clauses in
    let size = c.len-i-end.ensures ∙ ks.ok.0 in
    noted (fun_clause_seen text) (note_line text) clause_notes ks.items c.loop-i.i c.index.result.now c.loop-i.out.items c.put_clause_notes.new.out.items _ (omega (arith, size)) c.index.ensures c.loop-i.invariant c.in_ok-put_clause_notes.ensures

pub returns : goal.returns
returns g c =
    let text = c.args.fun.now.bytes.now in
    let ks = c.args.fun.now.clauses in
    let size = c.len-i-end.ensures ∙ ks.ok.0 in
    let fs = fun_clauses_seen text ks.items in
    notes_said text fs c.args.fun.now.read c.loop-i.out.items (all_noted (fun_clause_seen text) (note_line text) clause_notes ks.items c.loop-i.i c.loop-i.out.items (flat_map (note_line text) (fun_notes fs)) (omega (arith, size)) c.loop-i.invariant)
