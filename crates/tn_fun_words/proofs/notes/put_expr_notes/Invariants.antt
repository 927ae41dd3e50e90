use Rattle.std.proofs.Common.{◌≡◌, ◌++◌, drop, flat_map}
use Rattle.def_fun_words.specs.Notes.{note_in_expr, expr_notes, note_line}
use Rattle.tn_fun.specs.Trees.{fun_expr_seen}
use Rattle.tn_fun_words.specs.Views.{head_names_seen, lent_exprs_seen}
use Rattle.tn_fun_words.proofs.notes.put_expr_notes.Given as goal

abbrev pub invariant-loop-i : goal.invariant-loop-i
invariant-loop-i g l = l.out.items ++ flat_map (note_line l.bytes) (flat_map (note_in_expr (head_names_seen l.names)) (lent_exprs_seen l.bytes (drop l.i l.parts.items)))
    ≡ l.fn.out.items ++ flat_map (note_line l.bytes) (expr_notes (head_names_seen l.names) (fun_expr_seen l.bytes l.expr))
