use Rattle.std.proofs.Common.{◌≡◌, ◌∙◌, length, sym, arith}
use Rattle.std.specs.Prelude.{vec_len}
use Rattle.std.proofs.lemmas.Result.{IfOk-weaker}
use Rattle.tn_explore.specs.Searches.{answer_entries}
use Rattle.tn_random_run.proofs.Entries.{not_at_rest, at_rest}
use Rattle.tn_random_run.proofs.search.add_rest.Goals as goal

pub returns-then-not-is_empty : goal.returns-then-not-is_empty
returns-then-not-is_empty g c = λ a is_of.
    let moving = c.in_ok-moving.moving in
    let long : length moving.items ≡ vec_len moving = omega (arith, moving.ok.0) in
    not_at_rest a c.args.picks.now (g.S.SearchState.journal c.args.state.now) moving.items (vec_len moving) (c.in_ok-moving.ensures a is_of) long (answer_entries g.S.SearchState.kept_seen c.args.answers.now.entries) (sym c.is_empty.ensures ∙ c.if-not-is_empty.true)

pub returns : goal.returns
returns g c =
    let moving = c.in_ok-moving.moving in
    let long : length moving.items ≡ vec_len moving = omega (arith, moving.ok.0) in
    IfOk-weaker c.add_entry.result _ _
    (λ u adds a is_of.
    at_rest a c.args.picks.now (g.S.SearchState.journal c.args.state.now) moving.items (vec_len moving) (c.in_ok-moving.ensures a is_of) long (answer_entries g.S.SearchState.kept_seen c.args.answers.now.entries) (answer_entries g.S.SearchState.kept_seen c.add_entry.new.answers.entries)
    (sym c.is_empty.ensures ∙ c.if-not-is_empty.false) (adds c.args.context.now a is_of)) c.add_entry.ensures
