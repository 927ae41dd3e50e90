use Rattle.std.proofs.Common.{◌∙◌, ◌++◌, codes, flat_map, length, refl}
use Rattle.def_run.specs.Listing.{header_line}
use Rattle.def_term.specs.Names.{Name}
use Rattle.def_explore.specs.Output.{closing_line, pattern_answer_text}
use Rattle.def_explore.specs.Words.{refutes}
use Rattle.tn_explore.specs.Searches.{answer_entries}
use Rattle.tn_message_pattern.specs.Questions.{pattern_question_seen}
use Rattle.tn_messages.specs.MessageViews.{kept_seen}
use Rattle.tn_answers.specs.AnswerViews.{session_header, session_name_seen}
use Rattle.tn_answers.proofs.FirstJournals.{seen_any, seen_parts, whole_text}
use Rattle.tn_answers.proofs.text.words_answer.Goals as goal

pub returns : goal.returns
returns g c =
    let e = c.args.exploration.now in
    let es = answer_entries (kept_seen {A = g.row.A.Denot}) e.answers.entries in
    let ss = c.args.sessions.now in
    let qs = c.args.questions.now in
    record {
      text = whole_text c.new-text.result.items c.put_headers.new.out.items c.put_patterns.new.out.items c.put_explored.new.out.items
          (flat_map session_header ss) (flat_map (λ q. pattern_answer_text es e.is_complete (pattern_question_seen q)) qs) (codes "== explored\n") (closing_line e.states (length es) e.is_complete)
          c.new-text.ensures.items c.in_ok-put_headers.ensures c.in_ok-is_unmet.ensures.lines c.in_ok-put_explored.ensures
          ∙ (λ i. seen_parts (λ (s : Name × Name). header_line s.0 s.1) session_name_seen ss i ++ seen_parts (pattern_answer_text es e.is_complete) pattern_question_seen qs i ++ codes "== explored\n" ++ closing_line e.states (length es) e.is_complete);
      unmet = c.in_ok-is_unmet.ensures.refuted ∙ seen_any (refutes es e.is_complete) pattern_question_seen qs;
      settled = refl;
    }
