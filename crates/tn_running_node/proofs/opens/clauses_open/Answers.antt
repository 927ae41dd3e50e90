use Rattle.std.proofs.Common.{◌∙◌, ◌<◌, length, subst, arith}
use Rattle.std.specs.Prelude.{MatchOption}
use Rattle.def_spec.specs.Expressions.{effects_of_all}
use Rattle.tn_head.specs.Views.{bindings_seen}
use Rattle.tn_spec.specs.Views.{dialect_of, clause_seen}
use Rattle.tn_action.specs.Views.{context_seen}
use Rattle.tn_running_node.specs.FiringClauses.{Fails, FiresWith}
use Rattle.tn_running_node.proofs.OpenClauses.{goes_by, fires_here}
use Rattle.tn_running_node.proofs.opens.clauses_open.Goals as goal

pub loop-i-preserved : goal.loop-i-preserved
loop-i-preserved g c =
    let d = c.args.spec.now.dialect in
    let x = c.args.context.now in
    let ks = c.args.spec.now.clauses.items in
    let k = c.index-clause.result.now in
    let size = c.len-i-end.ensures ∙ c.args.spec.now.clauses.ok.0 in
    let below : c.loop-i.i < length ks = omega (arith, size) in
    let failed = subst (λ o. MatchOption o (Fails d k x) (λ b. FiresWith d k x b.now)) c.in-None.is c.in_ok-firing_bindings.ensures in
    goes_by (dialect_of d) (context_seen x) ks c.loop-i.i c.loop-i.invariant k failed.0 below c.index-clause.ensures failed.1

pub returns-in-Some : goal.returns-in-Some
returns-in-Some g c =
    let d = c.args.spec.now.dialect in
    let x = c.args.context.now in
    let ks = c.args.spec.now.clauses.items in
    let k = c.index-clause.result.now in
    let b = c.in-Some.bindings.now in
    let size = c.len-i-end.ensures ∙ c.args.spec.now.clauses.ok.0 in
    let below : c.loop-i.i < length ks = omega (arith, size) in
    let fired = subst (λ o. MatchOption o (Fails d k x) (λ y. FiresWith d k x y.now)) c.in-Some.is c.in_ok-firing_bindings.ensures in
    c.in_ok-fired_opens-in-Some.ensures
    ∙ fires_here (dialect_of d) (context_seen x) ks c.loop-i.i c.loop-i.invariant k (bindings_seen b) (effects_of_all (dialect_of d) (bindings_seen b) (context_seen x) (clause_seen k).body) below c.index-clause.ensures fired
