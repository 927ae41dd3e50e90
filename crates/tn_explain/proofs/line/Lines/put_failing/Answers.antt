use Rattle.std.proofs.Common.{◌++◌, codes}
use Rattle.def_explain.specs.Accounts.{said}
use Rattle.def_explain.specs.Texts.{clause_text, reason_text}
use Rattle.tn_verdict.specs.Views.{reason_seen}
use Rattle.tn_explain.proofs.LineTexts.{line, clause_line}
use Rattle.tn_explain.proofs.line.Lines.put_failing.Goals as goal

pub returns-clause-ok : goal.returns-clause-ok
returns-clause-ok g c =
    line c.args.self.now.name.now (said (clause_text c.args.before (codes ": " ++ reason_text (reason_seen c.args.reason)))) _ _ _ _ c.in_ok-begin.ensures.ok
    (clause_line c.args.before (codes ": ") _ _ _ _ _ c.in_ok-put_clause.ensures.ok c.in_ok-extend_from_slice.ensures.items c.in_ok-put_reason.ensures.ok) c.in_ok-push.ensures.items
