use Rattle.std.proofs.Common.{◌∙◌, ◌++◌, ap, sym}
use Rattle.std.specs.Option.{option_map}
use Rattle.std.specs.Prelude.{Some}
use Rattle.tn_comparison.specs.Matches.{match_seen}
use Rattle.tn_exploration.specs.Searches.{run_of_match}
use Rattle.tn_exploration.proofs.in_order.run_among.Goals as goal

pub returns-in_default : goal.returns-in_default
returns-in_default g c = ap (λ m. run_of_match m c.args.exploration.now.states) (sym (ap (option_map match_seen) c.in_default.is) ∙ c.in_ok-found.ensures)

pub returns : goal.returns
returns g c =
    let e = c.args.exploration.now in
    let same = c.in_ok-extend_from_slice.ensures.items ∙ ap (λ xs. xs ++ c.in-Some.found.journal.now) c.new-journal.ensures.items in
    ap (λ js. Some (js, e.states)) same ∙ ap (λ m. run_of_match m e.states) (sym (ap (option_map match_seen) c.in-Some.is) ∙ c.in_ok-found.ensures)
