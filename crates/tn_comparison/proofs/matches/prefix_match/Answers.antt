use Rattle.std.proofs.Common.{◌∙◌, ap, sym, List}
use Rattle.std.proofs.lemmas.List.{take-map}
use Rattle.std.specs.Option.{option_map}
use Rattle.def_term.specs.Tree.{Tree}
use Rattle.def_compare.specs.Entries.{first_match}
use Rattle.def_compare.specs.Traces.{prefix_pairs}
use Rattle.tn_explore.specs.Searches.{answer_entries}
use Rattle.tn_messages.specs.MessageViews.{kept_seen}
use Rattle.tn_term.specs.Views.{tree_of}
use Rattle.tn_comparison.specs.Matches.{match_seen}
use Rattle.tn_comparison.proofs.Firsts.{prefix_found, no_prefix}
use Rattle.tn_comparison.proofs.matches.prefix_match.Goals as goal

pub returns-in-Some : goal.returns-in-Some
returns-in-Some g c =
    let es = answer_entries kept_seen c.args.answers.now.entries in
    let same = ap (λ (ms : List Tree). first_match (prefix_pairs ms) es) (take-map tree_of c.args.count c.args.messages.now) in
    prefix_found c.args.count _ (match_seen c.in-Some.by) (same ∙ sym c.in_ok-by.ensures ∙ ap (option_map match_seen) c.in-Some.is)

pub returns-in-None : goal.returns-in-None
returns-in-None g c =
    let es = answer_entries kept_seen c.args.answers.now.entries in
    let same = ap (λ (ms : List Tree). first_match (prefix_pairs ms) es) (take-map tree_of c.args.count c.args.messages.now) in
    no_prefix c.args.count _ (same ∙ sym c.in_ok-by.ensures ∙ ap (option_map match_seen) c.in-None.is)
