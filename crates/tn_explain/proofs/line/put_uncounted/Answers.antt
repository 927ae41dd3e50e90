use Rattle.def_explain.specs.Accounts.{differs_uncounted}
use Rattle.tn_difference.specs.Differences.{difference_seen}
use Rattle.tn_explain.proofs.LineTexts.{line}
use Rattle.tn_explain.proofs.line.put_uncounted.Goals as goal

pub returns-clause-ok : goal.returns-clause-ok
returns-clause-ok g c =
    line c.args.name.now (differs_uncounted (difference_seen c.args.difference)) _ _ _ _ c.in_ok-begin.ensures.ok c.in_ok-put_difference.ensures.ok c.in_ok-push.ensures.items
