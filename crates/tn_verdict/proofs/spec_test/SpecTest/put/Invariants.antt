use Rattle.std.proofs.Common.{◌≡◌, ◌++◌, drop, map}
use Rattle.def_explain.specs.Texts.{spec_test_text_after}
use Rattle.tn_spec.specs.Views.{dialect_of, clause_seen}
use Rattle.tn_action.specs.Views.{context_seen}
use Rattle.tn_text.specs.Writes.{Grows}
use Rattle.tn_verdict.specs.SpecTests.{spec_test_in}
use Rattle.tn_verdict.proofs.spec_test.SpecTest.put.Given as goal

abbrev pub invariant-loop-i : goal.invariant-loop-i
invariant-loop-i g l = record {
  written : l.out.items ++ spec_test_text_after (dialect_of l.self.spec.now.dialect) l.i (map clause_seen (drop l.i l.clauses.items)) (context_seen l.self.context.now) ≡ l.fn.out.items ++ spec_test_in l.self;
  grows : Grows l.fn.out.items l.out.items;
}
