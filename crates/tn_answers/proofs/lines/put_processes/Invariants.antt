use Rattle.std.proofs.Common.{◌≡◌, ◌++◌, drop, flat_map}
use Rattle.def_run.specs.Listing.{lines_of}
use Rattle.tn_messages.specs.MessageViews.{trees_seen}
use Rattle.tn_answers.proofs.lines.put_processes.Given as goal

abbrev pub invariant-loop-messages : goal.invariant-loop-messages
invariant-loop-messages g l = l.out.items ++ flat_map (λ v. lines_of (trees_seen v)) (drop l.messages-index l.lists) ≡ l.fn.out.items ++ flat_map (λ v. lines_of (trees_seen v)) l.lists
