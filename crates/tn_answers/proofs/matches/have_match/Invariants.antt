use Rattle.std.proofs.Common.{◌≡◌, map, drop}
use Rattle.std.specs.List.{list_any}
use Rattle.def_explore.specs.Words.{is_match}
use Rattle.tn_messages.specs.MessageViews.{trees_seen}
use Rattle.tn_spec.specs.Views.{pattern_seen}
use Rattle.tn_answers.proofs.matches.have_match.Given as goal

abbrev pub invariant-loop-messages : goal.invariant-loop-messages
invariant-loop-messages g l =
    let f = is_match (pattern_seen l.pattern.pattern) in
    list_any (list_any f) (map trees_seen l.lists) ≡ list_any (list_any f) (map trees_seen (drop l.messages-index l.lists))
