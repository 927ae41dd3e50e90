use Rattle.def_term.specs.Tree.{of_elements}
use Rattle.tn_text.proofs.Growth.{grows_on, on_failed, enclosed_written}
use Rattle.tn_session.specs.Messages.{shared_trees}
use Rattle.tn_session.proofs.Texts.{grows_by}
use Rattle.tn_session.proofs.text.write_list.Goals as goal

pub returns-in_err-put_joined-clause-ok : goal.returns-in_err-put_joined-clause-ok
returns-in_err-put_joined-clause-ok g c = on_failed c.from_residual-in_err-put_joined.result _ _ c.from_residual-in_err-put_joined.ensures.1

pub returns-in_err-put_joined-clause-grows : goal.returns-in_err-put_joined-clause-grows
returns-in_err-put_joined-clause-grows g c = grows_on (grows_by _ c.in_ok-push.ensures.items) c.put_joined.ensures.grows

pub returns-in_err-push-2-clause-ok : goal.returns-in_err-push-2-clause-ok
returns-in_err-push-2-clause-ok g c = on_failed c.from_residual-in_err-push-2.result _ _ c.from_residual-in_err-push-2.ensures.1

pub returns-clause-ok : goal.returns-clause-ok
returns-clause-ok g c = enclosed_written (of_elements (shared_trees c.args.args.now)) 91 93 _ _ _ _ c.in_ok-push.ensures.items c.in_ok-put_joined.ensures.ok c.in_ok-push-2.ensures.items

pub returns-clause-grows : goal.returns-clause-grows
returns-clause-grows g c = grows_on (grows_by _ c.in_ok-push.ensures.items) (grows_on c.put_joined.ensures.grows (grows_by _ c.in_ok-push-2.ensures.items))
