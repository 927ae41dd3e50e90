use Rattle.std.proofs.Common.{◌≡◌, drop}
use Rattle.def_compare.specs.Entries.{first_match}
use Rattle.def_compare.specs.Traces.{TraceQuestion, shown_pairs}
use Rattle.tn_explore.specs.Searches.{answer_entries}
use Rattle.tn_messages.specs.MessageViews.{kept_seen}
use Rattle.tn_comparison.specs.Matches.{IsDemand}
use Rattle.tn_comparison.proofs.matches.first_match.Given as goal

abbrev pub invariant-loop-place : goal.invariant-loop-place
invariant-loop-place g l =
    let es = answer_entries kept_seen l.answers.entries in
    (a : TraceQuestion) → IsDemand a l.demand → first_match (shown_pairs a) es ≡ first_match (shown_pairs a) (drop l.place es)
