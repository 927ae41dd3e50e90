use Rattle.std.proofs.Common.{◌≡◌, ◌∙◌, length, sym}
use Rattle.std.proofs.lemmas.Bool.{eqb-true}
use Rattle.std.proofs.lemmas.Result.{IfOk-weaker}
use Rattle.tn_program.specs.Views.{program_of}
use Rattle.tn_exploration.specs.Requests.{AddsSearch, AddsSearches, groups_of}
use Rattle.tn_exploration.proofs.Explorations.{no_places, one_group}
use Rattle.tn_exploration.proofs.searches.put_groups.Goals as goal

pub returns-then-is_empty : goal.returns-then-is_empty
returns-then-is_empty g c =
    let q = c.args.request.now in
    let p = program_of c.args.program.now in
    let before = c.args.before.now in
    let places = c.args.places.now in
    let old = c.args.text.now.items in
    let new = c.put_search.new.text.items in
    let none : length places ≡ 0 = eqb-true (length places) 0 (sym c.is_empty.ensures ∙ c.if-is_empty.true) in
    IfOk-weaker c.put_search.result (AddsSearch q p before places old new) (AddsSearches q p before (groups_of places) old new)
    (λ w. one_group q p before places old new w (no_places places none)) c.put_search.ensures
