use Rattle.std.proofs.Common.{◌≡◌, ◌∙◌, ◌++◌, length, map, ap, arith}
use Rattle.def_compare.specs.AnswerSummaries.{entry_texts_in}
use Rattle.tn_explore.specs.Searches.{answer_entries}
use Rattle.tn_messages.specs.MessageViews.{kept_seen}
use Rattle.tn_answers.specs.AnswerViews.{session_name_seen}
use Rattle.tn_answers.proofs.Parts.{count_is, entry_at_more, entries_end}
use Rattle.tn_answers.proofs.text.put_entries.Goals as goal

pub loop-number-preserved : goal.loop-number-preserved
loop-number-preserved g c =
    let s = c.loop-number in
    let pairs = c.args.answers.now.entries in
    let all : c.len-count.result ≡ length (answer_entries kept_seen pairs) = count_is pairs c.len-count.result c.len-count.ensures.len in
    entry_at_more c.args.is_summary (map session_name_seen c.args.sessions.now) c.len-count.result (answer_entries kept_seen pairs) s.number s.out.items c.put_entry_at.new.out.items _ (omega arith) s.invariant c.in_ok-put_entry_at.ensures

pub returns : goal.returns
returns g c =
    let s = c.loop-number in
    let pairs = c.args.answers.now.entries in
    let es = answer_entries kept_seen pairs in
    let all : c.len-count.result ≡ length (answer_entries kept_seen pairs) = count_is pairs c.len-count.result c.len-count.ensures.len in
    entries_end c.args.is_summary (map session_name_seen c.args.sessions.now) c.len-count.result es s.number s.out.items _ (omega arith) s.invariant
    ∙ ap (λ n. c.args.out.now.items ++ entry_texts_in c.args.is_summary (map session_name_seen c.args.sessions.now) n 1 es) all
