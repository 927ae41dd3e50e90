use Rattle.std.proofs.Common.{map}
use Rattle.def_spec.specs.Reading.{clause_of}
use Rattle.tn_term.specs.Views.{tree_of}
use Rattle.tn_spec.specs.Answers.{each_read}
use Rattle.tn_spec.specs.Views.{dialect_of, clause_seen}
use Rattle.tn_spec.proofs.Each.{ReadSo}
use Rattle.tn_spec.proofs.clauses.clauses.Given as goal

abbrev pub invariant-loop-term : goal.invariant-loop-term
invariant-loop-term g l = ReadSo (clause_of (dialect_of l.dialect)) tree_of clause_seen (each_read (clause_of (dialect_of l.dialect)) (map tree_of l.terms.items)) l.term-items l.term-index l.clauses.items
