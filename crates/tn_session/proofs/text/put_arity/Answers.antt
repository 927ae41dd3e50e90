use Rattle.tn_term.specs.Views.{mfa_seen}
use Rattle.tn_text.proofs.Growth.{grows_on, on_failed}
use Rattle.tn_session.proofs.Texts.{thrice, names_closed, grows_by}
use Rattle.tn_session.proofs.text.put_arity.Goals as goal

pub returns-clause-ok : goal.returns-clause-ok
returns-clause-ok g c =
    thrice _ _ _ _ _ _ _ _ c.in_ok-put_names.ensures.ok c.in_ok-write_number.ensures.ok c.in_ok-push.ensures.items (names_closed (mfa_seen c.args.mfa.now) _)

pub returns-in_err-put_names-clause-ok : goal.returns-in_err-put_names-clause-ok
returns-in_err-put_names-clause-ok g c = on_failed c.from_residual.result _ _ c.from_residual.ensures.1

pub returns-in_err-put_names-clause-grows : goal.returns-in_err-put_names-clause-grows
returns-in_err-put_names-clause-grows g c = c.put_names.ensures.grows

pub returns-in_err-write_number-clause-ok : goal.returns-in_err-write_number-clause-ok
returns-in_err-write_number-clause-ok g c = on_failed c.from_residual-in_err-write_number.result _ _ c.from_residual-in_err-write_number.ensures.1

pub returns-in_err-write_number-clause-grows : goal.returns-in_err-write_number-clause-grows
returns-in_err-write_number-clause-grows g c = grows_on c.put_names.ensures.grows c.write_number.ensures.grows

pub returns-in_err-push-clause-ok : goal.returns-in_err-push-clause-ok
returns-in_err-push-clause-ok g c = on_failed c.from_residual-in_err-push.result _ _ c.from_residual-in_err-push.ensures.1

pub returns-clause-grows : goal.returns-clause-grows
returns-clause-grows g c = grows_on c.put_names.ensures.grows (grows_on c.write_number.ensures.grows (grows_by _ c.in_ok-push.ensures.items))
