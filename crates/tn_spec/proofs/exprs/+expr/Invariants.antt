use Rattle.std.proofs.Common.{map, drop}
use Rattle.def_spec.specs.Reading.{expr_of}
use Rattle.tn_term.specs.Views.{tree_of}
use Rattle.tn_spec.specs.Answers.{each_read}
use Rattle.tn_spec.specs.Names.{position_seen}
use Rattle.tn_spec.specs.Readings.{head_in}
use Rattle.tn_spec.specs.Views.{dialect_of, expr_seen}
use Rattle.tn_spec.proofs.Each.{ReadSo}
use Rattle.tn_spec.proofs.exprs.+expr.Given as goal

abbrev pub invariant-exprs-loop-i : goal.invariant-exprs-loop-i
invariant-exprs-loop-i g l =
    ReadSo (expr_of (dialect_of l.dialect) (position_seen l.part) (head_in l.head)) tree_of expr_seen (each_read (expr_of (dialect_of l.dialect) (position_seen l.part) (head_in l.head)) (map tree_of (drop l.from l.terms.items))) l.terms.items l.i
    l.exprs.items
