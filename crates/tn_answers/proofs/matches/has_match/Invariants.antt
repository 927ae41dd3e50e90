use Rattle.std.proofs.Common.{◌≡◌, map, drop}
use Rattle.std.specs.List.{list_any}
use Rattle.def_explore.specs.Words.{is_match}
use Rattle.tn_messages.specs.MessageViews.{message_tree}
use Rattle.tn_spec.specs.Views.{pattern_seen}
use Rattle.tn_answers.proofs.matches.has_match.Given as goal

abbrev pub invariant-loop-message : goal.invariant-loop-message
invariant-loop-message g l =
    let f = is_match (pattern_seen l.pattern.pattern) in
    list_any f (map message_tree l.messages) ≡ list_any f (map message_tree (drop l.message-index l.messages))
