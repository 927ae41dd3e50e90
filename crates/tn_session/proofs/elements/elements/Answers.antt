use Rattle.std.proofs.Common.{◌≡◌, subst}
use Rattle.std.specs.Prelude.{IfOk}
use Rattle.def_term.specs.Tree.{Tree}
use Rattle.def_node.specs.Event.{sent}
use Rattle.def_session.specs.Messages.{elements_of}
use Rattle.tn_session.specs.Messages.{trees}
use Rattle.tn_session.proofs.elements.elements.Goals as goal

pub returns-in-Sent : goal.returns-in-Sent
returns-in-Sent g c =
    let a = c.in-Sent in
    let Gives : Tree → Type 0 = λ t. IfOk c.send_elements.result (λ v. trees v ≡ elements_of c.args.short (sent a.pid t a.to a.alive)) in
    rw a.is (subst Gives c.term.ensures (c.send_elements.ensures c.args.short))
