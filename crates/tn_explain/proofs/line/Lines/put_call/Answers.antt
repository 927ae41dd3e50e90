use Rattle.std.proofs.Common.{◌∙◌, None, false, codes, refl, sym, ap}
use Rattle.std.proofs.lemmas.Result.{IfOk-weaker}
use Rattle.std.specs.Option.{option_map}
use Rattle.def_spec.specs.Flags.{call_flag}
use Rattle.def_node.specs.Event.{called}
use Rattle.def_session.specs.Settings.{setting_for}
use Rattle.def_session.specs.Session.{context, evaluated_by}
use Rattle.def_explain.specs.Causes.{of_named_calls}
use Rattle.def_explain.specs.Accounts.{cause_lines}
use Rattle.tn_flags.specs.Views.{call_seen}
use Rattle.tn_session.specs.Looks.{look_seen, look_setting, newest_seen}
use Rattle.tn_explain.specs.Evaluations.{GivesLines, GivesWhere, GivesBySetting, GivesOf}
use Rattle.tn_explain.specs.LineParts.{uncovered_lines}
use Rattle.tn_explain.proofs.EarlierLines.{refused_so, unflagged_so, settled_so, uncovered, unnamed, covered, no_call, is_false, is_true}
use Rattle.tn_explain.proofs.line.Lines.put_call.Goals as goal

pub returns-then-not-flags_at-clause-ok : goal.returns-then-not-flags_at-clause-ok
returns-then-not-flags_at-clause-ok g c =
    let n = c.args.self.now.name.now in
    let s = look_seen c.args.look.now in
    let k = call_seen c.args.call.now in
    let e = called c.args.pid k in
    let o = c.args.out.now.items in
    let x = c.put_where.new.out.items in
    IfOk-weaker c.put_where.result (GivesWhere n false (codes "no flag call") o x) (GivesOf n s e o x)
    (λ r h. unflagged_so n s e o x r (evaluated_by (setting_for s.functions k) (context s c.args.pid k.args k.caller)) (codes "no flag call") (refl, refl)
    (ap (λ f. f call_flag) (sym c.flags_at.ensures) ∙ is_false c.flags_at.result.call c.if-not-flags_at.true) no_call h)
    c.put_where.ensures.ok

pub returns-in_default-clause-ok : goal.returns-in_default-clause-ok
returns-in_default-clause-ok g c =
    let n = c.args.self.now.name.now in
    let s = look_seen c.args.look.now in
    let k = call_seen c.args.call.now in
    let e = called c.args.pid k in
    let o = c.args.out.now.items in
    let x = c.put_uncovered.new.out.items in
    IfOk-weaker c.put_uncovered.result (GivesLines n (uncovered_lines k.mfa) None o x) (GivesOf n s e o x)
    (λ r h. refused_so n s e o x r (uncovered_lines k.mfa)
    (uncovered s c.args.pid k (sym (ap (option_map newest_seen) c.in_default.is) ∙ c.newest.ensures) (ap (λ f. f call_flag) (sym c.flags_at.ensures) ∙ is_true c.flags_at.result.call c.if-not-flags_at.false)) h)
    c.put_uncovered.ensures.ok

pub returns-then-not-concerns-clause-ok : goal.returns-then-not-concerns-clause-ok
returns-then-not-concerns-clause-ok g c =
    let n = c.args.self.now.name.now in
    let s = look_seen c.args.look.now in
    let k = call_seen c.args.call.now in
    let e = called c.args.pid k in
    let o = c.args.out.now.items in
    let x = c.put_where-then-not-concerns.new.out.items in
    IfOk-weaker c.put_where-then-not-concerns.result (GivesWhere n false (codes "the setting is global, and the call doesn't name the module") o x) (GivesOf n s e o x)
    (λ r h. refused_so n s e o x r (cause_lines s e of_named_calls)
    (unnamed s c.args.pid k (look_setting c.in-Some.newest.setting) c.in-Some.newest.local (sym (ap (option_map newest_seen) c.in-Some.is) ∙ c.newest.ensures)
    (ap (λ f. f call_flag) (sym c.flags_at.ensures) ∙ is_true c.flags_at.result.call c.if-not-flags_at.false) (sym c.concerns.ensures ∙ c.if-not-concerns.true)) h)
    c.put_where-then-not-concerns.ensures.ok

pub returns-clause-ok : goal.returns-clause-ok
returns-clause-ok g c =
    let n = c.args.self.now.name.now in
    let s = look_seen c.args.look.now in
    let k = call_seen c.args.call.now in
    let e = called c.args.pid k in
    let o = c.args.out.now.items in
    let x = c.put_evaluation.new.out.items in
    let its = look_setting c.in-Some.newest.setting in
    let here = context s c.args.pid k.args k.caller in
    IfOk-weaker c.put_evaluation.result (GivesBySetting n its here o x) (GivesOf n s e o x)
    (λ r h. settled_so n s e o x r its its here here refl refl
    (covered s c.args.pid k its c.in-Some.newest.local (sym (ap (option_map newest_seen) c.in-Some.is) ∙ c.newest.ensures)
    (ap (λ f. f call_flag) (sym c.flags_at.ensures) ∙ is_true c.flags_at.result.call c.if-not-flags_at.false) (sym c.concerns.ensures ∙ c.if-not-concerns.false)) h)
    c.put_evaluation.ensures.ok
