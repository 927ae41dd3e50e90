use Rattle.std.proofs.Common.{None, sym, ap, subst}
use Rattle.tn_action.specs.Views.{context_seen}
use Rattle.tn_session.specs.Looks.{look_setting}
use Rattle.tn_explain.specs.Evaluations.{GivesBySetting}
use Rattle.tn_explain.specs.declared.clauses.Evaluation.TheVariants.{Refused, Done}
use Rattle.tn_explain.proofs.ClauseLines.{is_off, is_plain}
use Rattle.tn_explain.proofs.line.Lines.put_setting.Goals as goal

pub returns-in_ok-say-in-Disabled-clause-ok : goal.returns-in_ok-say-in-Disabled-clause-ok
returns-in_ok-say-in-Disabled-clause-ok g c =
    let n = c.args.self.now.name.now in
    let x = context_seen c.args.context.now in
    subst (λ s. GivesBySetting n s x c.args.out.now.items c.say.new.out.items Refused) (sym (ap look_setting c.in-Disabled.is)) (is_off n x c.args.out.now.items c.say.new.out.items c.in_ok-say-in-Disabled.ensures.ok)

pub returns-in-Always-clause-ok : goal.returns-in-Always-clause-ok
returns-in-Always-clause-ok g c =
    let n = c.args.self.now.name.now in
    let x = context_seen c.args.context.now in
    subst (λ s. GivesBySetting n s x c.args.out.now.items c.args.out.now.items (Done None)) (sym (ap look_setting c.in-Always.is)) (is_plain n x c.args.out.now.items)
