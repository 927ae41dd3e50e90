use Rattle.std.proofs.Common.{◌≤◌, ◌∙◌, ◌+◌, ◌∷◌, length, sym, ap, arith, map, drop}
use Rattle.std.proofs.lemmas.List.{drop_more, drop_all}
use Rattle.def_session.specs.Session.{all_affected}
use Rattle.tn_machine.specs.Types.{effect_seen}
use Rattle.tn_session.specs.Views.{state_seen}
use Rattle.tn_session.proofs.state.State.affect_all.Goals as goal

pub loop-effect-preserved : goal.loop-effect-preserved
loop-effect-preserved g c =
    let es = c.args.effects.now in
    let i = c.loop-effect.effect-index in
    let self_pid = c.args.self_pid in
    let rest = map effect_seen (drop (i + 1) es) in
    let here = drop_more es i c.effect-item.result (omega arith) ∙ ap (λ e. e ∷ drop (i + 1) es) (sym c.effect-item.is) in
    record {
      state = ap (λ t. all_affected self_pid (record (state_seen c.loop-effect.self) { flags = t }) rest) c.apply_to.ensures
          ∙ sym (ap (λ xs. all_affected self_pid (state_seen c.loop-effect.self) (map effect_seen xs)) here) ∙ c.loop-effect.invariant.state;
      functions = c.loop-effect.invariant.functions;
    }

pub returns-clause-state : goal.returns-clause-state
returns-clause-state g c =
    let l = c.loop-effect in
    let es = c.args.effects.now in
    let past : length es ≤ l.effect-index = omega (arith, c.loop-effect-test.false) in
    ap (λ xs. all_affected c.args.self_pid (state_seen l.self) (map effect_seen xs)) (sym (drop_all l.effect-index es past)) ∙ l.invariant.state
