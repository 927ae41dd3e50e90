use Rattle.std.proofs.Common.{◌∙◌, ◌∷◌, ◌++◌, ap, sym}
use Rattle.def_term.specs.Tree.{pid, of_elements}
use Rattle.def_term.specs.Text.{w, each_after_comma}
use Rattle.tn_term.specs.SharedTree.{shared_tree}
use Rattle.tn_text.proofs.Growth.{grows_on}
use Rattle.tn_session.proofs.Texts.{twice, details_of_send, two_details}
use Rattle.tn_session.proofs.text.put_details.Goals as goal

pub returns-in_ok-put_pid-in-Sent-clause-ok : goal.returns-in_ok-put_pid-in-Sent-clause-ok
returns-in_ok-put_pid-in-Sent-clause-ok g c =
    let t = shared_tree c.in-Sent.message in
    rw c.in-Sent.is (twice _ _ _ _ _ _ c.in_ok-put_more-in-Sent.ensures.ok c.in_ok-put_pid-in-Sent.ensures.ok
    (ap (λ ts. each_after_comma (of_elements ts)) (details_of_send c.args.short c.in-Sent.pid t c.in-Sent.to c.in-Sent.alive) ∙ two_details t (pid c.in-Sent.to) ∙ ap (λ u. (44 ∷ w u) ++ 44 ∷ w (pid c.in-Sent.to)) (sym c.term.ensures)))

pub returns-in_err-put_more-in-Sent-clause-grows : goal.returns-in_err-put_more-in-Sent-clause-grows
returns-in_err-put_more-in-Sent-clause-grows g c = c.put_more.ensures.grows

pub returns-in_err-put_pid-in-Sent-clause-grows : goal.returns-in_err-put_pid-in-Sent-clause-grows
returns-in_err-put_pid-in-Sent-clause-grows g c = grows_on c.put_more.ensures.grows c.put_pid.ensures.grows

pub returns-in_ok-put_pid-in-Sent-clause-grows : goal.returns-in_ok-put_pid-in-Sent-clause-grows
returns-in_ok-put_pid-in-Sent-clause-grows g c = grows_on c.put_more.ensures.grows c.put_pid.ensures.grows

pub returns-in_err-put_arity-in-Returned-clause-grows : goal.returns-in_err-put_arity-in-Returned-clause-grows
returns-in_err-put_arity-in-Returned-clause-grows g c = c.put_arity-in-Returned.ensures.grows

pub returns-in_err-put_more-in-Returned-clause-grows : goal.returns-in_err-put_more-in-Returned-clause-grows
returns-in_err-put_more-in-Returned-clause-grows g c = grows_on c.put_arity-in-Returned.ensures.grows c.put_more-in-Returned.ensures.grows

pub returns-in_ok-put_more-in-Returned-clause-grows : goal.returns-in_ok-put_more-in-Returned-clause-grows
returns-in_ok-put_more-in-Returned-clause-grows g c = grows_on c.put_arity-in-Returned.ensures.grows c.put_more-in-Returned.ensures.grows

pub returns-in_err-put_arity-in-Raised-clause-grows : goal.returns-in_err-put_arity-in-Raised-clause-grows
returns-in_err-put_arity-in-Raised-clause-grows g c = c.put_arity-in-Raised.ensures.grows

pub returns-in_err-put_exception-in-Raised-clause-grows : goal.returns-in_err-put_exception-in-Raised-clause-grows
returns-in_err-put_exception-in-Raised-clause-grows g c = grows_on c.put_arity-in-Raised.ensures.grows c.put_exception.ensures.grows

pub returns-in_ok-put_exception-in-Raised-clause-grows : goal.returns-in_ok-put_exception-in-Raised-clause-grows
returns-in_ok-put_exception-in-Raised-clause-grows g c = grows_on c.put_arity-in-Raised.ensures.grows c.put_exception.ensures.grows

pub returns-in_err-put_pid-in-Spawn-clause-grows : goal.returns-in_err-put_pid-in-Spawn-clause-grows
returns-in_err-put_pid-in-Spawn-clause-grows g c = c.put_pid-in-Spawn.ensures.grows

pub returns-in_err-put_args-in-Spawn-clause-grows : goal.returns-in_err-put_args-in-Spawn-clause-grows
returns-in_err-put_args-in-Spawn-clause-grows g c = grows_on c.put_pid-in-Spawn.ensures.grows c.put_args-in-Spawn.ensures.grows

pub returns-in_ok-put_args-in-Spawn-clause-grows : goal.returns-in_ok-put_args-in-Spawn-clause-grows
returns-in_ok-put_args-in-Spawn-clause-grows g c = grows_on c.put_pid-in-Spawn.ensures.grows c.put_args-in-Spawn.ensures.grows

pub returns-in_err-put_pid-in-Spawned-clause-grows : goal.returns-in_err-put_pid-in-Spawned-clause-grows
returns-in_err-put_pid-in-Spawned-clause-grows g c = c.put_pid-in-Spawned.ensures.grows

pub returns-in_err-put_args-in-Spawned-clause-grows : goal.returns-in_err-put_args-in-Spawned-clause-grows
returns-in_err-put_args-in-Spawned-clause-grows g c = grows_on c.put_pid-in-Spawned.ensures.grows c.put_args-in-Spawned.ensures.grows

pub returns-in_ok-put_args-in-Spawned-clause-grows : goal.returns-in_ok-put_args-in-Spawned-clause-grows
returns-in_ok-put_args-in-Spawned-clause-grows g c = grows_on c.put_pid-in-Spawned.ensures.grows c.put_args-in-Spawned.ensures.grows

pub returns-in_err-put_more-in-Received-clause-grows : goal.returns-in_err-put_more-in-Received-clause-grows
returns-in_err-put_more-in-Received-clause-grows g c = c.put_more-in-Received.ensures.grows

pub returns-in_ok-put_more-in-Received-clause-grows : goal.returns-in_ok-put_more-in-Received-clause-grows
returns-in_ok-put_more-in-Received-clause-grows g c = c.put_more-in-Received.ensures.grows

pub returns-in_err-put_arity-in-Called-clause-grows : goal.returns-in_err-put_arity-in-Called-clause-grows
returns-in_err-put_arity-in-Called-clause-grows g c = c.put_arity.ensures.grows

pub returns-in_ok-put_arity-in-Called-clause-grows : goal.returns-in_ok-put_arity-in-Called-clause-grows
returns-in_ok-put_arity-in-Called-clause-grows g c = c.put_arity.ensures.grows

pub returns-in_err-put_args-in-Called-clause-grows : goal.returns-in_err-put_args-in-Called-clause-grows
returns-in_err-put_args-in-Called-clause-grows g c = c.put_args.ensures.grows

pub returns-in_ok-put_args-in-Called-clause-grows : goal.returns-in_ok-put_args-in-Called-clause-grows
returns-in_ok-put_args-in-Called-clause-grows g c = c.put_args.ensures.grows

pub returns-in_err-put_more-in-Exited-clause-grows : goal.returns-in_err-put_more-in-Exited-clause-grows
returns-in_err-put_more-in-Exited-clause-grows g c = c.put_more-in-Exited.ensures.grows

pub returns-in_ok-put_more-in-Exited-clause-grows : goal.returns-in_ok-put_more-in-Exited-clause-grows
returns-in_ok-put_more-in-Exited-clause-grows g c = c.put_more-in-Exited.ensures.grows

pub returns-in_err-put_pid-in-Linked-clause-grows : goal.returns-in_err-put_pid-in-Linked-clause-grows
returns-in_err-put_pid-in-Linked-clause-grows g c = c.put_pid-in-Linked.ensures.grows

pub returns-in_ok-put_pid-in-Linked-clause-grows : goal.returns-in_ok-put_pid-in-Linked-clause-grows
returns-in_ok-put_pid-in-Linked-clause-grows g c = c.put_pid-in-Linked.ensures.grows
