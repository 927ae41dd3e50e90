use Rattle.std.proofs.Common.{◌∙◌, ◌+◌, ◌∷◌, sym, ap, arith, map, drop}
use Rattle.std.specs.Option.{option_map}
use Rattle.std.proofs.lemmas.List.{drop_more}
use Rattle.def_spec.specs.Outcome.{outcome_in}
use Rattle.tn_spec.specs.Views.{dialect_of, clause_seen}
use Rattle.tn_action.specs.EvalContexts.{first_outcome}
use Rattle.tn_action.specs.Views.{context_seen, effect_seen}
use Rattle.tn_action.proofs.clauses.first_fired.Goals as goal

pub returns-in-Some : goal.returns-in-Some
returns-in-Some g c =
    let d = dialect_of c.args.spec.now.dialect in
    let context = context_seen c.args.context.now in
    let ks = c.deref-clause-items.result.now in
    let i = c.loop-clause.clause-index in
    let next = outcome_in d (map clause_seen (drop (i + 1) ks)) context in
    let here = drop_more ks i c.clause-item.result (omega arith) ∙ ap (λ k. k ∷ drop (i + 1) ks) (sym c.clause-item.is) in
    ap (λ r. first_outcome (option_map (λ v. map effect_seen v.items) r) next) (sym c.in-Some.is)
    ∙ sym (c.in_ok-effects.ensures next)
    ∙ sym (ap (λ xs. outcome_in d (map clause_seen xs) context) here)
    ∙ c.loop-clause.invariant

pub loop-clause-preserved : goal.loop-clause-preserved
loop-clause-preserved g c =
    let d = dialect_of c.args.spec.now.dialect in
    let context = context_seen c.args.context.now in
    let ks = c.deref-clause-items.result.now in
    let i = c.loop-clause.clause-index in
    let next = outcome_in d (map clause_seen (drop (i + 1) ks)) context in
    let here = drop_more ks i c.clause-item.result (omega arith) ∙ ap (λ k. k ∷ drop (i + 1) ks) (sym c.clause-item.is) in
    ap (λ r. first_outcome (option_map (λ v. map effect_seen v.items) r) next) (sym c.in_default.is)
    ∙ sym (c.in_ok-effects.ensures next)
    ∙ sym (ap (λ xs. outcome_in d (map clause_seen xs) context) here)
    ∙ c.loop-clause.invariant
