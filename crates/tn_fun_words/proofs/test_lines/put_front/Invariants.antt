use Rattle.std.proofs.Common.{◌≡◌, ◌++◌, drop, map}
use Rattle.tn_spec.specs.Views.{dialect_of, clause_seen}
use Rattle.tn_action.specs.Views.{context_seen}
use Rattle.tn_fun_words.specs.Views.{fun_words_seen}
use Rattle.tn_fun_words.specs.FrontLines.{test_front_text, test_front_text_in}
use Rattle.tn_fun_words.proofs.test_lines.put_front.Given as goal

abbrev pub invariant-loop-i : goal.invariant-loop-i
invariant-loop-i g l = l.out.items ++ test_front_text (fun_words_seen l.fun) (dialect_of l.spec.dialect) l.i (map clause_seen (drop l.i l.clauses.items)) (context_seen l.context) ≡ l.fn.out.items ++ test_front_text_in (fun_words_seen l.fun) l.spec l.context
