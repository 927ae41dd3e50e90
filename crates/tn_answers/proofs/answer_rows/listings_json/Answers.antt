use Rattle.std.proofs.Common.{length, map, refl}
use Rattle.def_compare.specs.AnswerRows.{entries_rows, explored_row}
use Rattle.tn_explore.specs.Searches.{answer_entries}
use Rattle.tn_messages.specs.MessageViews.{kept_seen}
use Rattle.tn_answers.specs.AnswerViews.{session_name_seen}
use Rattle.tn_answers.proofs.Rows.{with_explored}
use Rattle.tn_answers.proofs.answer_rows.listings_json.Goals as goal

pub returns : goal.returns
returns g c =
    let e = c.args.exploration.now in
    let es = answer_entries (kept_seen {A = g.row.A.Denot}) e.answers.entries in
    record {
      text = with_explored c.no_rows.result.lines.items c.in_ok-out.out.lines.items c.in_ok-out-2.out.lines.items (entries_rows (map session_name_seen c.args.sessions.now) (length es) 1 es) (explored_row e.states (length es) e.is_complete)
          c.no_rows.ensures c.in_ok-out.ensures c.in_ok-out-2.ensures;
      unmet = refl;
      settled = refl;
    }
