use Rattle.std.proofs.Common.{◌≡◌, map, drop}
use Rattle.std.specs.List.{list_any}
use Rattle.def_explore.specs.Words.{is_match}
use Rattle.tn_messages.specs.MessageViews.{lists_seen}
use Rattle.tn_spec.specs.Views.{pattern_seen}
use Rattle.tn_answers.proofs.matches.sessions_have_match.Given as goal

abbrev pub invariant-loop-lists : goal.invariant-loop-lists
invariant-loop-lists g l =
    let f = is_match (pattern_seen l.pattern.pattern) in
    list_any (list_any (list_any f)) (map lists_seen l.sessions) ≡ list_any (list_any (list_any f)) (map lists_seen (drop l.lists-index l.sessions))
