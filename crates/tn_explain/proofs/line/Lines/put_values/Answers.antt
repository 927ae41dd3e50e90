use Rattle.std.proofs.Common.{IfOk, map, refl, subst}
use Rattle.std.specs.Option.{option_map}
use Rattle.def_spec.specs.Expressions.{Context}
use Rattle.tn_term.specs.Views.{mfa_seen}
use Rattle.tn_guard.specs.Views.{value_seen}
use Rattle.tn_session.specs.Looks.{look_setting}
use Rattle.tn_explain.specs.Evaluations.{GivesBySetting}
use Rattle.tn_explain.proofs.EarlierLines.{same_context}
use Rattle.tn_explain.proofs.line.Lines.put_values.Goals as goal

pub returns-clause-ok : goal.returns-clause-ok
returns-clause-ok g c =
    let vs = map value_seen c.args.list.now in
    let caller = option_map (λ f. mfa_seen f.now) c.args.actor.caller in
    subst (λ (x : Context). IfOk c.put_setting.result (λ r. GivesBySetting c.args.self.now.name.now (look_setting c.args.setting) x c.args.out.now.items c.put_setting.new.out.items r))
    (same_context c.args.actor.pid vs vs caller caller _ _ _ _ refl refl c.alive.ensures c.flags.ensures) c.put_setting.ensures.ok
