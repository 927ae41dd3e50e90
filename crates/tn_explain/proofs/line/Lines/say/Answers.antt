use Rattle.def_explain.specs.Accounts.{said}
use Rattle.tn_explain.proofs.LineTexts.{line}
use Rattle.tn_explain.proofs.line.Lines.say.Goals as goal

pub returns-clause-ok : goal.returns-clause-ok
returns-clause-ok g c = line c.args.self.now.name.now (said c.args.text.now) _ _ _ _ c.in_ok-begin.ensures.ok c.in_ok-extend_from_slice.ensures.items c.in_ok-push.ensures.items
