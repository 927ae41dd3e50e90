use Rattle.std.proofs.Common.{rules}
use Rattle.tn_trace.specs.Items.{item_seen}
use Rattle.tn_live.specs.Places.{message_at}
use Rattle.tn_live.proofs.Answers.{told_same, told_none}
use Rattle.tn_live.proofs.places.is_told.Goals as goal

pub returns-in-Some : goal.returns-in-Some
returns-in-Some g c = λ picks is.
    told_same c.args.place (item_seen c.args.item.now) (message_at c.args.core.now.program picks c.args.place) _ c.same.result (search rules) (search rules) (c.in-Some.ensures picks is) (rw (c.term.ensures, c.term-in-Some.ensures) at c.same.ensures)

pub returns-in-None : goal.returns-in-None
returns-in-None g c = λ picks is. told_none c.args.place (item_seen c.args.item.now) (message_at c.args.core.now.program picks c.args.place) (c.in-None.ensures picks is)
