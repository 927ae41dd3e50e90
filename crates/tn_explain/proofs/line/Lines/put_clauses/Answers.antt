use Rattle.std.proofs.Common.{◌∙◌, sym, arith, map, ap}
use Rattle.def_session.specs.Session.{mark_asked}
use Rattle.def_explain.specs.Verdicts.{fires}
use Rattle.tn_head.specs.Views.{bindings_seen}
use Rattle.tn_spec.specs.Views.{dialect_of}
use Rattle.tn_action.specs.Views.{context_seen, effect_seen}
use Rattle.tn_verdict.specs.Views.{reason_seen, verdict_seen}
use Rattle.tn_explain.specs.ClauseDifferences.{lines_with}
use Rattle.tn_explain.specs.LineParts.{firing_lines}
use Rattle.tn_explain.proofs.DifferenceLines.{lines_of_clause}
use Rattle.tn_explain.proofs.LineTexts.{more, other}
use Rattle.tn_explain.proofs.ClauseLines.{goes_on, ends, none_fires}
use Rattle.tn_explain.proofs.line.Lines.put_clauses.Goals as goal
use Rattle.tn_text.proofs.Growth.{grows_on}

pub returns-in-Fires-clause-ok : goal.returns-in-Fires-clause-ok
returns-in-Fires-clause-ok g c =
    let ks = c.args.spec.now.clauses.items in
    let size = c.len-i-end.ensures ∙ c.args.spec.now.clauses.ok.0 in
    let bs = bindings_seen c.in-Fires.bindings.now in
    let n = c.args.self.now.name.now in
    let these = c.in_ok-these-in-Fires.these in
    ends c.args.self.now.name.now (dialect_of c.args.spec.now.dialect) (context_seen c.args.context.now) ks c.loop-i.i _ _ _ c.loop-i.invariant.so_far
    c.index-clause.result.now bs (map effect_seen c.deref.result.now) c.mark_for-mark.result (omega (arith, size)) c.index-clause.ensures
    (ap (λ xs. fires bs (map effect_seen xs)) c.deref.ensures.value ∙ sym (ap (λ v. verdict_seen v) c.in-Fires.is) ∙ c.in_ok-reason.ensures)
    (more n (firing_lines c.loop-i.i (map effect_seen c.deref.result.now)) _ _ _ _ c.in_ok-put_firing-in-Fires.ensures.ok
    (other n _ _ _ _ (ap (λ xs. lines_with these c.args.spec.now.dialect c.args.context.now xs) (c.deref-in-Fires.ensures.value ∙ sym c.deref.ensures.value)
    ∙ lines_of_clause c.args.spec.now.dialect c.index-clause.result.now c.in-Fires.bindings.now c.args.context.now c.deref.result.now these c.in_ok-these-in-Fires.ensures) c.in_ok-put_differences-in-Fires.ensures.ok))
    (c.mark_for-mark.ensures ∙ ap (λ xs. mark_asked (map effect_seen xs)) (c.deref-in-Fires-2.ensures.value ∙ sym c.deref.ensures.value))

pub loop-i-preserved : goal.loop-i-preserved
loop-i-preserved g c =
    let ks = c.args.spec.now.clauses.items in
    let size = c.len-i-end.ensures ∙ c.args.spec.now.clauses.ok.0 in
    record {
      so_far =
          goes_on c.args.self.now.name.now (dialect_of c.args.spec.now.dialect) (context_seen c.args.context.now) ks c.loop-i.i _ _ _ c.loop-i.invariant.so_far
          c.index-clause.result.now (reason_seen c.in-Fails.reason) (omega (arith, size)) c.index-clause.ensures
          (sym (ap (λ v. verdict_seen v) c.in-Fails.is) ∙ c.in_ok-reason.ensures) c.in_ok-put_failing-in-Fails.ensures.ok;
      grows = grows_on c.loop-i.invariant.grows c.in_ok-put_failing-in-Fails.ensures.grows;
    }

pub returns-clause-ok : goal.returns-clause-ok
returns-clause-ok g c =
    let ks = c.args.spec.now.clauses.items in
    let size = c.len-i-end.ensures ∙ c.args.spec.now.clauses.ok.0 in
    none_fires c.args.self.now.name.now (dialect_of c.args.spec.now.dialect) (context_seen c.args.context.now) ks c.loop-i.i _ _ _ c.loop-i.invariant.so_far
    (omega (arith, size)) c.in_ok-say.ensures.ok
