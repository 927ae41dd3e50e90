use Rattle.std.proofs.Common.{◌≡◌, ◌++◌, drop, flat_map}
use Rattle.def_fun.specs.Variables.{matched_part}
use Rattle.def_fun_words.specs.Notes.{noted_parts_of, note_in_head, note_line}
use Rattle.tn_fun.specs.Clauses.{fun_head_seen}
use Rattle.tn_fun_words.specs.Views.{head_names_seen, lent_exprs_seen}
use Rattle.tn_fun_words.proofs.notes.put_head_notes.Given as goal

abbrev pub invariant-loop-i : goal.invariant-loop-i
invariant-loop-i g l = l.out.items ++ flat_map (note_line l.bytes) (flat_map (note_in_head (head_names_seen l.names)) (lent_exprs_seen l.bytes (drop l.i l.parts.items)))
    ≡ l.fn.out.items ++ flat_map (note_line l.bytes) (flat_map (note_in_head (head_names_seen l.names)) (noted_parts_of (matched_part (fun_head_seen l.bytes l.head))))
