use Rattle.std.proofs.Common.{map}
use Rattle.def_spec.specs.Reading.{pattern_of}
use Rattle.tn_term.specs.Views.{tree_of}
use Rattle.tn_spec.specs.Answers.{each_read}
use Rattle.tn_spec.specs.Views.{pattern_seen}
use Rattle.tn_spec.proofs.Each.{ReadSo}
use Rattle.tn_spec.proofs.heads.+pattern.Given as goal

abbrev pub invariant-patterns-loop-term : goal.invariant-patterns-loop-term
invariant-patterns-loop-term g l = ReadSo pattern_of tree_of pattern_seen (each_read pattern_of (map tree_of l.terms.items)) l.term-items l.term-index l.patterns.items
