use Rattle.std.proofs.Common.{◌≡◌, ◌++◌, ◌≤◌, drop, map}
use Rattle.def_fun_words.specs.Words.{spaced_after, condition_in_front, condition_text}
use Rattle.tn_fun.specs.Tokens.{span_seen}
use Rattle.tn_fun.specs.Trees.{fun_expr_seen}
use Rattle.tn_fun_words.proofs.condition.put_condition.Given as goal

abbrev pub invariant-loop-i : goal.invariant-loop-i
invariant-loop-i g l = record {
  written : l.out.items ++ spaced_after l.bytes l.end (condition_in_front l.depth (map (span_seen l.bytes) (drop l.i l.tokens))) ≡ l.fn.out.items ++ condition_text l.bytes (fun_expr_seen l.bytes l.condition);
  depth_before : l.depth ≤ l.i;
}
