use Rattle.std.proofs.Common.{◌≡◌, ℕ, List, drop, map}
use Rattle.def_fun_words.specs.Words.{spans_at}
use Rattle.tn_fun.specs.Tokens.{span_seen}
use Rattle.tn_fun_words.proofs.condition.index_at.Given as goal

abbrev pub invariant-loop-i : goal.invariant-loop-i
invariant-loop-i l = (text : List ℕ) → spans_at l.at (map (span_seen text) (drop l.i l.tokens)) ≡ spans_at l.at (map (span_seen text) l.tokens)
