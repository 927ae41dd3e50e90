use Rattle.std.proofs.Common.{◌≡◌, ◌∙◌, ◌+◌, ◌++◌, ap, map, sym}
use Rattle.std.proofs.lemmas.Result.{IfOk-weaker}
use Rattle.std.specs.Prelude.{Some, slice_get}
use Rattle.std.specs.Option.{option_map}
use Rattle.std.specs.Map.Iter.{deref_pair}
use Rattle.def_explore.specs.Answers.{RestEntry}
use Rattle.def_explore.specs.Output.{kept_listings}
use Rattle.def_formats.specs.JsonRows.{json_lines}
use Rattle.def_compare.specs.AnswerRows.{entry_rows, sessions_rows}
use Rattle.tn_explore.specs.Searches.{answer_entries}
use Rattle.tn_messages.specs.MessageViews.{kept_seen}
use Rattle.tn_answers.specs.AnswerViews.{session_name_seen}
use Rattle.tn_answers.proofs.Parts.{never_seen}
use Rattle.tn_answers.proofs.Rows.{entry_rows_written}
use Rattle.tn_answers.proofs.listing_rows.put_entry_rows.Goals as goal

pub returns-in_default : goal.returns-in_default
returns-in_default g c = λ e at. never_seen c.args.answers.now.entries c.args.place.0 e (sym c.get_index.ensures.entry ∙ ap (option_map deref_pair) c.in_default.is) at

pub returns : goal.returns
returns g c =
    let ss = map session_name_seen c.args.sessions.now in
    let now = c.args.out.lines.items in
    let mid = c.in_ok-out.out.lines.items in
    IfOk-weaker c.put_kept_rows.result (λ v. v.lines.items ≡ mid ++ json_lines (sessions_rows ss (kept_listings (kept_seen c.in-Some.kept.now))))
    (λ v. (e : RestEntry) → slice_get (answer_entries kept_seen c.args.answers.now.entries) c.args.place.0 ≡ Some e → v.lines.items ≡ now ++ json_lines (entry_rows ss c.args.place.1 (c.args.place.0 + 1) e))
    (λ v h e at. entry_rows_written ss c.args.place.1 (c.args.place.0 + 1) c.args.answers.now.entries c.args.place.0 c.in-Some.kept.now c.in-Some.journal.now c.deref.result.now now mid v.lines.items e
    (sym (ap (option_map deref_pair) c.in-Some.is) ∙ c.get_index.ensures.entry) at c.deref.ensures.value c.in_ok-out.ensures h) c.put_kept_rows.ensures
