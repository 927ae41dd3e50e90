use Rattle.std.proofs.Common.{◌≤◌, ◌∙◌, ◌+◌, ◌∷◌, length, sym, ap, arith, map, drop}
use Rattle.std.proofs.lemmas.List.{drop_more, drop_all}
use Rattle.def_spec.specs.Expressions.{flags_after}
use Rattle.tn_flags.specs.Views.{table_of}
use Rattle.tn_action.specs.Views.{effect_seen}
use Rattle.tn_action.proofs.context.Context.flags_after.Goals as goal

pub loop-effect-preserved : goal.loop-effect-preserved
loop-effect-preserved g c =
    let es = c.args.effects.now in
    let i = c.loop-effect.effect-index in
    let self_pid = c.args.self.now.self_pid in
    let here = drop_more es i c.effect-item.result (omega arith) ∙ ap (λ e. e ∷ drop (i + 1) es) (sym c.effect-item.is) in
    ap (λ t. flags_after self_pid t (map effect_seen (drop (i + 1) es))) c.apply_to.ensures
    ∙ sym (ap (λ xs. flags_after self_pid (table_of c.loop-effect.flags) (map effect_seen xs)) here) ∙ c.loop-effect.invariant

pub returns : goal.returns
returns g c =
    let l = c.loop-effect in
    let es = c.args.effects.now in
    let past : length es ≤ l.effect-index = omega (arith, c.loop-effect-test.false) in
    ap (λ xs. flags_after c.args.self.now.self_pid (table_of l.flags) (map effect_seen xs)) (sym (drop_all l.effect-index es past)) ∙ l.invariant
