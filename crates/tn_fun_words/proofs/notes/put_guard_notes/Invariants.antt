use Rattle.std.proofs.Common.{◌≡◌, ◌++◌, drop, flat_map}
use Rattle.def_fun_words.specs.Notes.{row_notes, note_line}
use Rattle.tn_fun.specs.Clauses.{guards_seen}
use Rattle.tn_fun_words.specs.Views.{head_names_seen}
use Rattle.tn_fun_words.proofs.notes.put_guard_notes.Given as goal

abbrev pub invariant-loop-i : goal.invariant-loop-i
invariant-loop-i g l = l.out.items ++ flat_map (note_line l.bytes) (flat_map (row_notes (head_names_seen l.names)) (guards_seen l.bytes (drop l.i l.guards.items)))
    ≡ l.fn.out.items ++ flat_map (note_line l.bytes) (flat_map (row_notes (head_names_seen l.names)) (guards_seen l.bytes l.guards.items))
