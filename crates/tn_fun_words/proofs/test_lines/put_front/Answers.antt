use Rattle.std.proofs.Common.{◌∙◌, ◌++◌, map, sym, ap, arith}
use Rattle.std.specs.Option.{option_map}
use Rattle.def_explain.specs.Verdicts.{fires}
use Rattle.tn_head.specs.Views.{bindings_seen}
use Rattle.tn_spec.specs.Views.{dialect_of}
use Rattle.tn_action.specs.Views.{context_seen, effect_seen}
use Rattle.tn_verdict.specs.Views.{reason_seen, verdict_seen}
use Rattle.tn_fun_words.specs.Views.{fun_words_seen, clause_words_seen}
use Rattle.tn_fun_words.specs.FrontLines.{test_front_text_in}
use Rattle.tn_fun_words.proofs.Fronts.{goes_on, ends_ok, none_fires}
use Rattle.tn_fun_words.proofs.test_lines.put_front.Goals as goal

pub returns-in-Fires : goal.returns-in-Fires
returns-in-Fires g c =
    let spec = c.args.spec.now in
    let ks = spec.clauses in
    let size = c.len-i-end.ensures ∙ ks.ok.0 in
    let bs = bindings_seen c.in-Fires.bindings.now in
    let wss = fun_words_seen c.args.fun in
    ends_ok (dialect_of spec.dialect) (context_seen c.args.context.now) wss ks.items c.loop-i.i c.put_fired.result c.index-clause.result.now (option_map clause_words_seen c.words_for-words.result) bs (map effect_seen c.deref.result.now) c.loop-i.out.items c.put_fired.new.out.items
    (c.args.out.now.items ++ test_front_text_in wss spec c.args.context.now) (omega (arith, size)) c.index-clause.ensures c.words_for-words.ensures
    (ap (λ xs. fires bs (map effect_seen xs)) c.deref.ensures.value ∙ sym (ap (λ v. verdict_seen v) c.in-Fires.is) ∙ c.in_ok-reason.ensures)
    c.loop-i.invariant c.put_fired.ensures

pub loop-i-preserved : goal.loop-i-preserved
loop-i-preserved g c =
    let spec = c.args.spec.now in
    let ks = spec.clauses in
    let size = c.len-i-end.ensures ∙ ks.ok.0 in
    let wss = fun_words_seen c.args.fun in
    goes_on (dialect_of spec.dialect) (context_seen c.args.context.now) wss ks.items c.loop-i.i c.index-clause.result.now (option_map clause_words_seen c.words_for-words.result) (reason_seen c.in-Fails.reason) c.loop-i.out.items c.put_failed.new.out.items
    (c.args.out.now.items ++ test_front_text_in wss spec c.args.context.now) (omega (arith, size)) c.index-clause.ensures c.words_for-words.ensures (sym (ap (λ v. verdict_seen v) c.in-Fails.is) ∙ c.in_ok-reason.ensures) c.loop-i.invariant c.in_ok-put_failed-in-Fails.ensures

pub returns : goal.returns
returns g c =
    let spec = c.args.spec.now in
    let ks = spec.clauses in
    let size = c.len-i-end.ensures ∙ ks.ok.0 in
    let wss = fun_words_seen c.args.fun in
    none_fires (dialect_of spec.dialect) (context_seen c.args.context.now) wss ks.items c.loop-i.i c.loop-i.out.items (c.args.out.now.items ++ test_front_text_in wss spec c.args.context.now) (omega (arith, size)) c.loop-i.invariant
