use Rattle.std.proofs.Common.{◌++◌, [], sym}
use Rattle.def_explain.specs.Differences.{reports_attempt, catches_error, raises_noproc, reports_later, adds_calls, reports_exceptions}
use Rattle.tn_explain.specs.LineParts.{step_where}
use Rattle.tn_text.proofs.Growth.{grows_on}
use Rattle.tn_explain.proofs.DifferenceLines.{each_step}
use Rattle.tn_explain.proofs.LineTexts.{on_ok, more, nothing, other}
use Rattle.tn_explain.proofs.line.Lines.put_step_differences.Goals as goal

pub returns-clause-ok : goal.returns-clause-ok
returns-clause-ok g c =
    let n = c.args.self.now.name.now in
    let d = c.args.steps in
    let one = step_where d.attempt reports_attempt in
    let two = step_where d.caught catches_error in
    let three = step_where d.noproc raises_noproc in
    let four = step_where d.later reports_later in
    let five = step_where d.calls adds_calls in
    let six = step_where d.exceptions reports_exceptions in
    on_ok c.put_where_steps-6.result _ _
    (λ made. other n (one ++ (two ++ (three ++ (four ++ (five ++ (six ++ [])))))) _ _ _ (sym (each_step d))
    (more n one (two ++ (three ++ (four ++ (five ++ (six ++ []))))) _ _ _ c.in_ok-put_where_steps.ensures.ok
    (more n two (three ++ (four ++ (five ++ (six ++ [])))) _ _ _ c.in_ok-put_where_steps-2.ensures.ok
    (more n three (four ++ (five ++ (six ++ []))) _ _ _ c.in_ok-put_where_steps-3.ensures.ok
    (more n four (five ++ (six ++ [])) _ _ _ c.in_ok-put_where_steps-4.ensures.ok
    (more n five (six ++ []) _ _ _ c.in_ok-put_where_steps-5.ensures.ok (more n six [] _ _ _ made (nothing n _))))))))
    c.put_where_steps-6.ensures.ok

pub returns-clause-grows : goal.returns-clause-grows
returns-clause-grows g c = grows_on (grows_on (grows_on (grows_on (grows_on c.put_where_steps.ensures.grows c.put_where_steps-2.ensures.grows) c.put_where_steps-3.ensures.grows) c.put_where_steps-4.ensures.grows) c.put_where_steps-5.ensures.grows) c.put_where_steps-6.ensures.grows
