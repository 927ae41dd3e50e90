use Rattle.std.proofs.Common.{◌++◌, flat_map, map, sym}
use Rattle.def_explain.specs.Texts.{binding_line}
use Rattle.tn_head.specs.Views.{bindings_seen}
use Rattle.tn_spec.specs.Views.{dialect_of, clause_seen}
use Rattle.tn_action.specs.Views.{context_seen, effect_seen}
use Rattle.tn_verdict.specs.SpecTests.{fires_line, message_line, differences_text}
use Rattle.tn_verdict.proofs.ClauseTexts.{fired_is}
use Rattle.tn_verdict.proofs.Pieces.{after_ok, read_as}
use Rattle.tn_verdict.proofs.spec_test.SpecTest.put_fired.Goals as goal

pub returns-clause-ok : goal.returns-clause-ok
returns-clause-ok g c =
    let d = dialect_of c.args.self.now.spec.now.dialect in
    let k = context_seen c.args.self.now.context.now in
    let clause = c.args.clause.now in
    let bs = bindings_seen c.args.bindings.now in
    let es = map effect_seen c.args.effects.now in
    let done = c.put_differences.result in
    let o = c.args.out.now.items in
    let last = c.put_differences.new.out.items in
    let others = differences_text c.args.self.now clause c.args.bindings.now c.args.effects.now in
    read_as done o _ _ last (sym (fired_is d (clause_seen clause) k c.args.before bs es))
    (after_ok done o (fires_line c.args.before es) (flat_map binding_line bs ++ (message_line d k.self_pid es ++ others)) c.put_fires.new.out.items last c.in_ok-put_fires.ensures.ok
    (after_ok done c.put_fires.new.out.items (flat_map binding_line bs) (message_line d k.self_pid es ++ others) c.put_bindings.new.out.items last c.in_ok-put_bindings.ensures.ok
    (after_ok done c.put_bindings.new.out.items (message_line d k.self_pid es) others c.put_message.new.out.items last c.in_ok-put_message.ensures.ok c.put_differences.ensures.ok)))
