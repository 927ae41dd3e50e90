use Rattle.std.proofs.Common.{◌≡◌, [], drop}
use Rattle.def_fun.specs.Variables.{matched_part, name_of_whole, variables_in, with_names}
use Rattle.tn_fun.specs.Clauses.{fun_head_seen}
use Rattle.tn_fun_words.specs.Views.{head_names_seen, lent_exprs_seen, names_in_parts}
use Rattle.tn_fun_words.proofs.names.names_of.Given as goal

abbrev pub invariant-loop-i : goal.invariant-loop-i
invariant-loop-i g l = record {
  of_whole : (head_names_seen l.names).of_whole ≡ name_of_whole (fun_head_seen l.bytes l.head);
  numbers : with_names (name_of_whole (fun_head_seen l.bytes l.head)) (head_names_seen l.names).numbers (names_in_parts (lent_exprs_seen l.bytes (drop l.i l.parts.items)))
      ≡ with_names (name_of_whole (fun_head_seen l.bytes l.head)) [] (variables_in (matched_part (fun_head_seen l.bytes l.head)));
}
