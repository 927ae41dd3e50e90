use Rattle.std.proofs.Common.{◌≡◌, ◌∙◌, ◌++◌, length, map, ap, arith}
use Rattle.def_formats.specs.JsonRows.{json_lines}
use Rattle.def_compare.specs.AnswerRows.{entries_rows}
use Rattle.tn_explore.specs.Searches.{answer_entries}
use Rattle.tn_messages.specs.MessageViews.{kept_seen}
use Rattle.tn_answers.specs.AnswerViews.{session_name_seen}
use Rattle.tn_answers.proofs.Parts.{count_is}
use Rattle.tn_answers.proofs.Rows.{entry_rows_at_more, entries_rows_end}
use Rattle.tn_answers.proofs.listing_rows.put_entries_rows.Goals as goal

pub loop-number-preserved : goal.loop-number-preserved
loop-number-preserved g c =
    let s = c.loop-number in
    let pairs = c.args.answers.now.entries in
    let all : c.len-count.result ≡ length (answer_entries kept_seen pairs) = count_is pairs c.len-count.result c.len-count.ensures.len in
    entry_rows_at_more (map session_name_seen c.args.sessions.now) c.len-count.result (answer_entries kept_seen pairs) s.number s.out.lines.items c.in_ok-out.out.lines.items _ (omega arith) s.invariant c.in_ok-out.ensures

pub returns : goal.returns
returns g c =
    let s = c.loop-number in
    let pairs = c.args.answers.now.entries in
    let es = answer_entries kept_seen pairs in
    let all : c.len-count.result ≡ length (answer_entries kept_seen pairs) = count_is pairs c.len-count.result c.len-count.ensures.len in
    entries_rows_end (map session_name_seen c.args.sessions.now) c.len-count.result es s.number s.out.lines.items _ (omega arith) s.invariant
    ∙ ap (λ n. c.args.out.lines.items ++ json_lines (entries_rows (map session_name_seen c.args.sessions.now) n 1 es)) all
