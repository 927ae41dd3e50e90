use Rattle.tn_spec.specs.Views.{dialect_of}
use Rattle.tn_action.specs.Views.{context_seen}
use Rattle.tn_text.specs.Writes.{Grows}
use Rattle.tn_explain.proofs.ClauseLines.{SoFar}
use Rattle.tn_explain.proofs.line.Lines.put_clauses.Given as goal

abbrev pub invariant-loop-i : goal.invariant-loop-i
invariant-loop-i g l = record {
  so_far : SoFar l.self.name.now (dialect_of l.spec.dialect) (context_seen l.context) l.clauses.items l.i l.fn.out.items l.out.items;
  grows : Grows l.fn.out.items l.out.items;
}
