use Rattle.tn_text.proofs.Growth.{grows_on, on_failed}
use Rattle.tn_session.proofs.Texts.{grows_by}
use Rattle.tn_session.proofs.text.put_front.Goals as goal

pub returns-in_err-write_pid-clause-ok : goal.returns-in_err-write_pid-clause-ok
returns-in_err-write_pid-clause-ok g c = on_failed c.from_residual-in_err-write_pid.result _ _ c.from_residual-in_err-write_pid.ensures.1

pub returns-in_err-write_pid-clause-grows : goal.returns-in_err-write_pid-clause-grows
returns-in_err-write_pid-clause-grows g c = grows_on (grows_by _ c.in_ok-extend_from_slice.ensures.items) c.write_pid.ensures.grows

pub returns-in_err-push-clause-ok : goal.returns-in_err-push-clause-ok
returns-in_err-push-clause-ok g c = on_failed c.from_residual-in_err-push.result _ _ c.from_residual-in_err-push.ensures.1

pub returns-clause-grows : goal.returns-clause-grows
returns-clause-grows g c = grows_on (grows_by _ c.in_ok-extend_from_slice.ensures.items) (grows_on c.write_pid.ensures.grows (grows_on (grows_by _ c.in_ok-push.ensures.items) (grows_by _ c.in_ok-extend_from_slice-2.ensures.items)))
