use Rattle.std.proofs.Common.{◌≡◌, ◌-◌, length, map}
use Rattle.def_compare.specs.Entries.{longest_prefix}
use Rattle.tn_explore.specs.Searches.{answer_entries}
use Rattle.tn_messages.specs.MessageViews.{kept_seen}
use Rattle.tn_term.specs.Views.{tree_of}
use Rattle.tn_comparison.proofs.matches.longest_prefix.Given as goal

abbrev pub invariant-loop-fewer : goal.invariant-loop-fewer
invariant-loop-fewer g l =
    let es = answer_entries kept_seen l.answers.entries in
    let ms = map tree_of l.messages in
    longest_prefix ms es (length ms) ≡ longest_prefix ms es (length ms - l.fewer)
