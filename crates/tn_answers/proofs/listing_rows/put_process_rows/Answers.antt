use Rattle.std.proofs.Common.{◌≡◌, ◌∙◌, ◌++◌, IfOk, map, flat_map, ap, sym, subst}
use Rattle.def_formats.specs.JsonRows.{json_lines}
use Rattle.def_compare.specs.AnswerRows.{sessions_rows}
use Rattle.tn_messages.specs.MessageViews.{lists_seen}
use Rattle.tn_answers.specs.AnswerViews.{session_name_seen, processes_listed}
use Rattle.tn_answers.proofs.Parts.{lists_seen_twice}
use Rattle.tn_answers.proofs.listing_rows.put_process_rows.Goals as goal

pub returns : goal.returns
returns g c =
    subst (λ mss. IfOk c.put_sessions_rows.result (λ v. v.lines.items ≡ c.args.out.lines.items ++ json_lines (sessions_rows (map session_name_seen c.args.sessions.now) mss)))
    (ap (map processes_listed) c.deref.ensures.value ∙ sym (lists_seen_twice lists_seen (flat_map (λ ms. ms)) c.args.listings.now.items)) c.put_sessions_rows.ensures
