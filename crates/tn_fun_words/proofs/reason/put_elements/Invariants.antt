use Rattle.std.proofs.Common.{◌≡◌, ◌++◌, drop, flat_map}
use Rattle.tn_verdict.specs.MismatchTexts.{level_text}
use Rattle.tn_fun_words.proofs.reason.put_elements.Given as goal

abbrev pub invariant-loop-before : goal.invariant-loop-before
invariant-loop-before g l = l.out.items ++ flat_map level_text (drop l.before-index l.place) ≡ l.fn.out.items ++ flat_map level_text l.place
