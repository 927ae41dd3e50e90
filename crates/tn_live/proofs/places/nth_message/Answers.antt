use Rattle.tn_text.specs.WrittenTrees.{written_tree}
use Rattle.tn_live.proofs.Answers.{nth_is, nth_none}
use Rattle.tn_live.proofs.places.nth_message.Goals as goal

pub returns-in-Some : goal.returns-in-Some
returns-in-Some g c = nth_is written_tree c.args.messages.now c.args.index c.in-Some.message.now c.in-Some.ensures.lookup.3.0 c.in-Some.ensures.lookup.1

pub returns-in-None : goal.returns-in-None
returns-in-None g c = nth_none written_tree c.args.messages.now c.args.index c.in-None.ensures.lookup.3
