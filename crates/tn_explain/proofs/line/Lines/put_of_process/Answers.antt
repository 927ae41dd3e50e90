use Rattle.std.proofs.Common.{◌∙◌, ◌++◌, sym, ap}
use Rattle.def_term.specs.Text.{pid_text}
use Rattle.def_explain.specs.Accounts.{said}
use Rattle.tn_explain.specs.Lines.{lines_text}
use Rattle.tn_explain.proofs.LaterLines.{where_empty, where_more}
use Rattle.tn_explain.proofs.LineTexts.{nothing, line, both}
use Rattle.tn_explain.proofs.line.Lines.put_of_process.Goals as goal

pub returns-then-is_empty-clause-ok : goal.returns-then-is_empty-clause-ok
returns-then-is_empty-clause-ok g c =
    let n = c.args.self.now.name.now in
    let o = c.args.out.now.items in
    nothing n o ∙ ap (λ ls. o ++ lines_text n ls) (sym (where_empty c.args.pid c.args.text.now (sym c.is_empty.ensures ∙ c.if-is_empty.true)))

pub returns-clause-ok : goal.returns-clause-ok
returns-clause-ok g c =
    let n = c.args.self.now.name.now in
    let o = c.args.out.now.items in
    line n (said (pid_text c.args.pid ++ c.args.text.now)) _ _ _ _ c.in_ok-begin.ensures.ok
    (both _ _ _ _ _ c.in_ok-write_pid.ensures.ok c.in_ok-extend_from_slice.ensures.items) c.in_ok-push.ensures.items
    ∙ ap (λ ls. o ++ lines_text n ls) (sym (where_more c.args.pid c.args.text.now (sym c.is_empty.ensures ∙ c.if-is_empty.false)))
