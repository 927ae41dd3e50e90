use Rattle.std.proofs.Common.{◌≡◌, ◌++◌, drop, flat_map}
use Rattle.def_fun_words.specs.Notes.{clause_notes, fun_notes, note_line}
use Rattle.tn_fun.specs.Clauses.{fun_clauses_seen}
use Rattle.tn_fun_words.proofs.notes.notes_of.Given as goal

abbrev pub invariant-loop-i : goal.invariant-loop-i
invariant-loop-i g l = l.out.items ++ flat_map (note_line l.fun.bytes.now) (flat_map clause_notes (fun_clauses_seen l.fun.bytes.now (drop l.i l.fun.clauses.items)))
    ≡ flat_map (note_line l.fun.bytes.now) (fun_notes (fun_clauses_seen l.fun.bytes.now l.fun.clauses.items))
