use Rattle.std.proofs.Common.{◌≡◌, ◌++◌, drop, flat_map}
use Rattle.def_run.specs.Listing.{line_of}
use Rattle.tn_messages.specs.MessageViews.{message_tree}
use Rattle.tn_answers.proofs.lines.put_messages.Given as goal

abbrev pub invariant-loop-message : goal.invariant-loop-message
invariant-loop-message g l = l.out.items ++ flat_map (λ m. line_of (message_tree m)) (drop l.message-index l.messages) ≡ l.fn.out.items ++ flat_map (λ m. line_of (message_tree m)) l.messages
