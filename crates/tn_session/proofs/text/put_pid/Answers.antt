use Rattle.std.proofs.Common.{refl}
use Rattle.tn_text.proofs.Growth.{grows_on, on_failed}
use Rattle.tn_session.proofs.Texts.{twice, grows_by}
use Rattle.tn_session.proofs.text.put_pid.Goals as goal

pub returns-in_err-write_pid-clause-ok : goal.returns-in_err-write_pid-clause-ok
returns-in_err-write_pid-clause-ok g c = on_failed c.from_residual-in_err-write_pid.result _ _ c.from_residual-in_err-write_pid.ensures.1

pub returns-in_err-write_pid-clause-grows : goal.returns-in_err-write_pid-clause-grows
returns-in_err-write_pid-clause-grows g c = grows_on (grows_by _ c.in_ok-push.ensures.items) c.write_pid.ensures.grows

pub returns-clause-ok : goal.returns-clause-ok
returns-clause-ok g c = twice _ _ _ _ _ _ c.in_ok-push.ensures.items c.in_ok-write_pid.ensures.ok refl

pub returns-clause-grows : goal.returns-clause-grows
returns-clause-grows g c = grows_on (grows_by _ c.in_ok-push.ensures.items) c.write_pid.ensures.grows
