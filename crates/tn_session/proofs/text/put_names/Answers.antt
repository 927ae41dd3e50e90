use Rattle.tn_text.proofs.Growth.{grows_on, on_failed}
use Rattle.tn_session.proofs.Texts.{grows_by, grows_same}
use Rattle.tn_session.proofs.text.put_names.Goals as goal

pub returns-in_err-write_atom-clause-ok : goal.returns-in_err-write_atom-clause-ok
returns-in_err-write_atom-clause-ok g c = on_failed c.from_residual-in_err-write_atom.result _ _ c.from_residual-in_err-write_atom.ensures.1

pub returns-in_err-write_atom-clause-grows : goal.returns-in_err-write_atom-clause-grows
returns-in_err-write_atom-clause-grows g c = grows_on (grows_by _ c.in_ok-extend_from_slice.ensures.items) (grows_same c.in_err-write_atom.ensures.err)

pub returns-in_err-push-clause-ok : goal.returns-in_err-push-clause-ok
returns-in_err-push-clause-ok g c = on_failed c.from_residual-in_err-push.result _ _ c.from_residual-in_err-push.ensures.1

pub returns-in_err-write_atom-2-clause-ok : goal.returns-in_err-write_atom-2-clause-ok
returns-in_err-write_atom-2-clause-ok g c = on_failed c.from_residual-in_err-write_atom-2.result _ _ c.from_residual-in_err-write_atom-2.ensures.1

pub returns-in_err-write_atom-2-clause-grows : goal.returns-in_err-write_atom-2-clause-grows
returns-in_err-write_atom-2-clause-grows g c =
    grows_on (grows_by _ c.in_ok-extend_from_slice.ensures.items) (grows_on (grows_by _ c.in_ok-write_atom.ensures.ok) (grows_on (grows_by _ c.in_ok-push.ensures.items) (grows_same c.in_err-write_atom-2.ensures.err)))

pub returns-clause-grows : goal.returns-clause-grows
returns-clause-grows g c =
    grows_on (grows_by _ c.in_ok-extend_from_slice.ensures.items) (grows_on (grows_by _ c.in_ok-write_atom.ensures.ok) (grows_on (grows_by _ c.in_ok-push.ensures.items) (grows_on (grows_by _ c.in_ok-write_atom-2.ensures.ok) (grows_by _ c.in_ok-push-2.ensures.items))))
