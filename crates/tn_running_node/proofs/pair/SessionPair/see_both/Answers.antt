use Rattle.tn_running_node.proofs.Pairs.{saw_both}
use Rattle.tn_running_node.proofs.pair.SessionPair.see_both.Goals as goal

pub returns-clause-ok : goal.returns-clause-ok
returns-clause-ok g c = λ o living p h.
    saw_both c.args.step c.args.event.now c.args.is_determined c.args.self.now o living p h c.in-Some.here c.tell.new.self c.in-Some-there.there c.see.new.self c.in_ok-message.message c.in_ok-lines.lines c.in_ok-lines_here.lines_here c.in_ok-lines_here.lines_there
    c.in-Some.is c.in-Some-there.is c.in_ok-message.ensures.reported c.in_ok-message.ensures.of_event c.in_ok-lines.ensures c.in_ok-kinds.kinds c.args.out.now c.put_lines.new.out
    c.in_ok-lines_here.ensures c.in_ok-kinds.ensures.ok
