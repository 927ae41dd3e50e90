use Rattle.tn_text.proofs.Growth.{grows_on, on_failed}
use Rattle.tn_text.proofs.write.put_atom.Goals as goal

pub returns-in_err-put_one-clause-ok : goal.returns-in_err-put_one-clause-ok
returns-in_err-put_one-clause-ok g c = on_failed c.from_residual.result _ _ c.from_residual.ensures.1

pub returns-in_err-put_one-clause-grows : goal.returns-in_err-put_one-clause-grows
returns-in_err-put_one-clause-grows g c = c.put_one.ensures.grows

pub returns-in_err-put_escaped-clause-ok : goal.returns-in_err-put_escaped-clause-ok
returns-in_err-put_escaped-clause-ok g c = on_failed c.from_residual-in_err-put_escaped.result _ _ c.from_residual-in_err-put_escaped.ensures.1

pub returns-in_err-put_escaped-clause-grows : goal.returns-in_err-put_escaped-clause-grows
returns-in_err-put_escaped-clause-grows g c = grows_on c.put_one.ensures.grows c.put_escaped.ensures.grows

pub returns-clause-grows : goal.returns-clause-grows
returns-clause-grows g c = grows_on c.put_one.ensures.grows (grows_on c.put_escaped.ensures.grows c.put_one-2.ensures.grows)
