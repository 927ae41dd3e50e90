use Rattle.std.proofs.Common.{◌∙◌, ◌++◌, ap}
use Rattle.tn_flags.specs.Views.{class_of}
use Rattle.tn_term.specs.Views.{tree_of}
use Rattle.tn_text.proofs.Growth.{grows_on, on_failed}
use Rattle.tn_session.proofs.Texts.{four_times, exception_closed, grows_by}
use Rattle.tn_session.proofs.text.put_exception.Goals as goal

pub returns-clause-ok : goal.returns-clause-ok
returns-clause-ok g c =
    four_times _ _ _ _ _ _ _ _ _ _ c.in_ok-extend_from_slice.ensures.items
    (c.in_ok-extend_from_slice-2.ensures.items ∙ ap (λ s. c.extend_from_slice.new.self.items ++ s) c.class_text.ensures)
    c.in_ok-put_more.ensures.ok c.in_ok-push.ensures.items (exception_closed (class_of c.args.class) (tree_of c.args.value.now))

pub returns-in_err-extend_from_slice-2-clause-ok : goal.returns-in_err-extend_from_slice-2-clause-ok
returns-in_err-extend_from_slice-2-clause-ok g c = on_failed c.from_residual-in_err-extend_from_slice-2.result _ _ c.from_residual-in_err-extend_from_slice-2.ensures.1

pub returns-in_err-put_more-clause-ok : goal.returns-in_err-put_more-clause-ok
returns-in_err-put_more-clause-ok g c = on_failed c.from_residual-in_err-put_more.result _ _ c.from_residual-in_err-put_more.ensures.1

pub returns-in_err-put_more-clause-grows : goal.returns-in_err-put_more-clause-grows
returns-in_err-put_more-clause-grows g c =
    grows_on (grows_by _ c.in_ok-extend_from_slice.ensures.items) (grows_on (grows_by _ c.in_ok-extend_from_slice-2.ensures.items) c.put_more.ensures.grows)

pub returns-in_err-push-clause-ok : goal.returns-in_err-push-clause-ok
returns-in_err-push-clause-ok g c = on_failed c.from_residual-in_err-push.result _ _ c.from_residual-in_err-push.ensures.1

pub returns-clause-grows : goal.returns-clause-grows
returns-clause-grows g c =
    grows_on (grows_by _ c.in_ok-extend_from_slice.ensures.items)
    (grows_on (grows_by _ c.in_ok-extend_from_slice-2.ensures.items) (grows_on c.put_more.ensures.grows (grows_by _ c.in_ok-push.ensures.items)))
