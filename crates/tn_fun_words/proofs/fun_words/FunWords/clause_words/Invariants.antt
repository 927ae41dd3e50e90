use Rattle.std.proofs.Common.{◌≡◌, drop, slice_get}
use Rattle.def_fun_words.specs.Words.{words_of_fun}
use Rattle.tn_fun.specs.Clauses.{fun_clauses_seen}
use Rattle.tn_fun_words.specs.Views.{all_words_seen}
use Rattle.tn_fun_words.proofs.fun_words.FunWords.clause_words.Given as goal

abbrev pub invariant-loop-i : goal.invariant-loop-i
invariant-loop-i g l = slice_get (words_of_fun l.self.bytes.now (fun_clauses_seen l.self.bytes.now (drop l.i l.clauses.items))) l.before ≡ slice_get (all_words_seen l.self) l.index
