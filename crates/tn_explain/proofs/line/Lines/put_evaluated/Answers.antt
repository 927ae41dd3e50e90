use Rattle.std.proofs.Common.{◌∙◌, ◌++◌, [], map, Option, is_some, ap, sym, subst}
use Rattle.std.specs.Option.{option_map}
use Rattle.def_explain.specs.Accounts.{said, differs_uncounted, step_lines, difference_lines}
use Rattle.def_explain.specs.Differences.{step_differences}
use Rattle.def_explain.specs.Limits.{limit_said}
use Rattle.def_term.specs.Tree.{Tree}
use Rattle.tn_flags.specs.Views.{event_of}
use Rattle.tn_node.specs.Outlooks.{outlook_seen}
use Rattle.tn_session.specs.Sessions.{SessionValue, value_in}
use Rattle.tn_session.specs.Looks.{look_seen}
use Rattle.tn_session.specs.Messages.{message_seen}
use Rattle.tn_explain.specs.StepDifferences.{AreBefore}
use Rattle.tn_explain.specs.Evaluations.{GivesOf}
use Rattle.tn_explain.specs.Lines.{PutsLines}
use Rattle.tn_explain.specs.LineParts.{lines_after}
use Rattle.tn_explain.proofs.DifferenceLines.{all_known, some-mapped, no_difference_at_end}
use Rattle.tn_explain.proofs.SessionLines.{if_seen, there, and_there, after, state, evaluated_made}
use Rattle.tn_explain.proofs.LineTexts.{on_ok, more, other}
use Rattle.tn_explain.proofs.line.Lines.put_evaluated.Goals as goal
use Rattle.tn_text.proofs.Growth.{grows_on}

pub returns-clause-ok : goal.returns-clause-ok
returns-clause-ok g c =
    let n = c.args.self.now.name.now in
    let e = event_of c.args.event.now in
    let o = c.args.out.now.items in
    let r = c.in_ok-evaluation.evaluation in
    let end = c.put_after.new.out.items in
    on_ok c.put_step_differences.result _ _
    (λ made. if_seen look_seen _ c.in-Some.look _ c.in-Some.ensures (λ (s : SessionValue) is seen phase none.
    let m = option_map message_seen c.in_ok-message.message in
    let gives = and_there _ s _ is c.in_ok-message.ensures.reported in
    let past = after s e n (value_in c.tell.new.self) m gives in
    let same = seen in
    let l = outlook_seen c.args.outlook in
    let before = subst (λ x. AreBefore x l e c.of-before.result) same c.of-before.ensures in
    let counted = c.is_some.ensures ∙ sym (some-mapped message_seen c.in_ok-message.message) ∙ ap (λ (p : Option SessionValue × Option Tree). is_some p.1) (sym gives) in
    evaluated_made s e n (value_in c.tell.new.self) m gives l r o c.put_before.new.out.items c.put_reported.new.out.items c.put_text.new.out.items _ end phase none
    (subst (λ x. GivesOf n x e o c.put_before.new.out.items r) same c.in_ok-evaluation.ensures.ok)
    (subst (λ x. PutsLines n (lines_after x e) [] end) same (subst (λ v. PutsLines n (lines_after (look_seen c.in-Some.look) e) v end) c.new-behind.ensures.items (c.in_ok-put_after.ensures.ok c.in_ok-evaluation.ensures.ok.effects)))
    (there _ (record s { state = past }) _ (state s e n (value_in c.tell.new.self) m gives) c.in_ok-put_reported.ensures.ok)
    (c.in_ok-put_text.ensures.ok ∙ ap (λ x. c.put_reported.new.out.items ++ x) c.deref.ensures.value)
    (more n (step_lines s.state l e) (difference_lines s.state e) _ c.put_step_differences.new.out.items _
    (more n (map said (limit_said s.state l e)) (map differs_uncounted (step_differences s.state l e)) _ c.put_limit.new.out.items _
    (other n _ (map said (limit_said s.state l e)) _ _ (ap (map said) (c.limit_at-limit.ensures ∙ ap (λ x. limit_said x l e) same)) c.in_ok-put_limit.ensures.ok)
    (other n _ (map differs_uncounted (step_differences s.state l e)) _ _ (ap (map differs_uncounted) (all_known s.state l e c.is_some.result c.of-before.result c.after-steps.result phase counted before c.after-steps.ensures)) made))
    (no_difference_at_end n s.state e c.put_step_differences.new.out.items none))))
    c.put_step_differences.ensures.ok

pub returns-clause-grows : goal.returns-clause-grows
returns-clause-grows g c = grows_on (grows_on (grows_on (grows_on c.put_before.ensures.grows c.put_reported.ensures.grows) c.put_text.ensures.grows) c.put_limit.ensures.grows) c.put_step_differences.ensures.grows
