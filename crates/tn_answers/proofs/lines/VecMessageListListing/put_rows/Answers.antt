use Rattle.std.proofs.Common.{◌≡◌, ◌∙◌, ◌++◌, IfOk, flat_map, map, ap, sym, subst}
use Rattle.std.proofs.lemmas.List.Folds.{flat_map-map}
use Rattle.def_formats.specs.JsonRows.{json_lines}
use Rattle.def_compare.specs.AnswerRows.{listed_rows}
use Rattle.tn_messages.specs.MessageViews.{trees_seen}
use Rattle.tn_answers.specs.AnswerViews.{session_name_seen}
use Rattle.tn_answers.specs.RowViews.{lent_message}
use Rattle.tn_answers.proofs.lines.VecMessageListListing.put_rows.Goals as goal

pub returns : goal.returns
returns g c =
    subst (λ ms. IfOk c.put_listed_rows.result (λ v. v.lines.items ≡ c.args.out.lines.items ++ json_lines (listed_rows (session_name_seen c.args.session.now) ms)))
    (ap (map lent_message) c.deref-2.ensures.value ∙ c.in_ok-add_lists.ensures ∙ ap (λ xs. map lent_message xs ++ flat_map (λ v. trees_seen v) c.deref.result.now) c.new-all.ensures.items
    ∙ ap (flat_map (λ v. trees_seen v)) c.deref.ensures.value ∙ sym (flat_map-map (λ ms. ms) trees_seen c.args.self.now.items)) c.put_listed_rows.ensures
