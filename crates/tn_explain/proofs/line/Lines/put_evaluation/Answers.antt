use Rattle.std.proofs.Common.{◌∙◌, IfOk, map, refl, ap, subst}
use Rattle.def_spec.specs.Expressions.{Context}
use Rattle.tn_flags.specs.Views.{call_seen}
use Rattle.tn_guard.specs.Views.{value_seen}
use Rattle.tn_session.specs.Looks.{look_seen, look_setting}
use Rattle.tn_explain.specs.Evaluations.{GivesBySetting}
use Rattle.tn_explain.proofs.EarlierLines.{same_context, caller_lent}
use Rattle.tn_explain.proofs.line.Lines.put_evaluation.Goals as goal

pub returns-clause-ok : goal.returns-clause-ok
returns-clause-ok g c =
    let s = look_seen c.args.look.now in
    let k = call_seen c.args.call.now in
    subst (λ (x : Context). IfOk c.put_values.result (λ r. GivesBySetting c.args.self.now.name.now (look_setting c.args.setting) x c.args.out.now.items c.put_values.new.out.items r))
    (same_context c.args.pid _ k.args _ k.caller s.alive s.alive s.flags s.flags
    (ap (map value_seen) c.as_slice.ensures.value ∙ c.in_ok-args.ensures) (caller_lent c.as_ref-caller.result c.args.call.now.caller c.as_ref-caller.ensures.value) refl refl) c.put_values.ensures.ok
