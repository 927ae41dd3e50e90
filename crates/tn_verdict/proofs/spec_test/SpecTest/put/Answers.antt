use Rattle.std.proofs.Common.{◌∙◌, ◌++◌, map, sym, ap, arith}
use Rattle.def_explain.specs.Verdicts.{fires}
use Rattle.tn_head.specs.Views.{bindings_seen}
use Rattle.tn_spec.specs.Views.{dialect_of}
use Rattle.tn_action.specs.Views.{context_seen, effect_seen}
use Rattle.tn_verdict.specs.Views.{reason_seen, verdict_seen}
use Rattle.tn_verdict.specs.SpecTests.{spec_test_in}
use Rattle.tn_verdict.proofs.ClauseTexts.{goes_on, ends_ok, none_fires_ok}
use Rattle.tn_verdict.proofs.spec_test.SpecTest.put.Goals as goal
use Rattle.tn_text.proofs.Growth.{grows_on}

pub returns-in-Fires-clause-ok : goal.returns-in-Fires-clause-ok
returns-in-Fires-clause-ok g c =
    let self = c.args.self.now in
    let ks = self.spec.now.clauses in
    let size = c.len-i-end.ensures ∙ ks.ok.0 in
    let bs = bindings_seen c.in-Fires.bindings.now in
    ends_ok (dialect_of self.spec.now.dialect) (context_seen self.context.now) ks.items c.loop-i.i c.put_fired.result c.index-clause.result.now bs (map effect_seen c.deref.result.now) c.loop-i.out.items c.put_fired.new.out.items
    (c.args.out.now.items ++ spec_test_in self) (omega (arith, size)) c.index-clause.ensures
    (ap (λ xs. fires bs (map effect_seen xs)) c.deref.ensures.value ∙ sym (ap (λ v. verdict_seen v) c.in-Fires.is) ∙ c.in_ok-reason.ensures)
    c.loop-i.invariant.written c.put_fired.ensures.ok

pub loop-i-preserved : goal.loop-i-preserved
loop-i-preserved g c =
    let self = c.args.self.now in
    let ks = self.spec.now.clauses in
    let size = c.len-i-end.ensures ∙ ks.ok.0 in
    record {
      written = goes_on (dialect_of self.spec.now.dialect) (context_seen self.context.now) ks.items c.loop-i.i c.index-clause.result.now (reason_seen c.in-Fails.reason) c.loop-i.out.items c.put_failed.new.out.items
          (c.args.out.now.items ++ spec_test_in self) (omega (arith, size)) c.index-clause.ensures (sym (ap (λ v. verdict_seen v) c.in-Fails.is) ∙ c.in_ok-reason.ensures) c.loop-i.invariant.written c.in_ok-put_failed-in-Fails.ensures.ok;
      grows = grows_on c.loop-i.invariant.grows c.put_failed.ensures.grows;
    }

pub returns-clause-ok : goal.returns-clause-ok
returns-clause-ok g c =
    let self = c.args.self.now in
    let ks = self.spec.now.clauses in
    let size = c.len-i-end.ensures ∙ ks.ok.0 in
    none_fires_ok (dialect_of self.spec.now.dialect) (context_seen self.context.now) ks.items c.loop-i.i c.extend_from_slice.result c.loop-i.out.items c.extend_from_slice.new.self.items
    (c.args.out.now.items ++ spec_test_in self) (omega (arith, size)) c.loop-i.invariant.written c.extend_from_slice.ensures.items
