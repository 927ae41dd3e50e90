use Rattle.std.proofs.Common.{◌≡◌, ◌∙◌, ◌-◌, ◌+◌, ℕ, suc, ap, sym, length, map, arith}
use Rattle.std.proofs.lemmas.List.{length-map}
use Rattle.std.specs.Prelude.{None}
use Rattle.std.specs.Option.{option_map}
use Rattle.def_compare.specs.Entries.{prefix_or, prefix_match}
use Rattle.tn_explore.specs.Searches.{answer_entries}
use Rattle.tn_messages.specs.MessageViews.{kept_seen}
use Rattle.tn_term.specs.Views.{tree_of}
use Rattle.tn_comparison.specs.Matches.{prefix_seen}
use Rattle.tn_comparison.proofs.Firsts.{is_mapped, longest_here, longest_later}
use Rattle.tn_comparison.proofs.matches.longest_prefix.Goals as goal

pub returns-then-is_some : goal.returns-then-is_some
returns-then-is_some g c =
    let es = answer_entries kept_seen c.args.answers.now.entries in
    let ms = map tree_of c.args.messages.now in
    let left = c.loop-fewer.fewer in
    let made = c.in_ok-found.ensures ∙ ap (λ (n : ℕ). prefix_or (n - left) (prefix_match ms es (n - left)) None) (sym (length-map c.args.messages.now tree_of)) in
    longest_here ms es (length ms - left) (option_map prefix_seen c.in_ok-found.found) (is_mapped prefix_seen c.in_ok-found.found _ (sym c.is_some.ensures ∙ c.if-is_some.true)) made
    ∙ sym c.loop-fewer.invariant

pub loop-fewer-preserved : goal.loop-fewer-preserved
loop-fewer-preserved g c =
    let es = answer_entries kept_seen c.args.answers.now.entries in
    let ms = map tree_of c.args.messages.now in
    let left = c.loop-fewer.fewer in
    let made = c.in_ok-found.ensures ∙ ap (λ (n : ℕ). prefix_or (n - left) (prefix_match ms es (n - left)) None) (sym (length-map c.args.messages.now tree_of)) in
    let one : length ms - left ≡ suc (length ms - (left + 1)) = omega (arith, c.loop-fewer-test.true, length-map c.args.messages.now (tree_of {A = g.row.P.Denot})) in
    c.loop-fewer.invariant
    ∙ longest_later ms es (length ms - left) (length ms - (left + 1)) (option_map prefix_seen c.in_ok-found.found) one (is_mapped prefix_seen c.in_ok-found.found _ (sym c.is_some.ensures ∙ c.if-is_some.false)) made
