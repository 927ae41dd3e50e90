use Rattle.std.proofs.Common.{◌∙◌, ◌++◌, Bool, ap, codes, flat_map, length, not, ◌&&◌, ◌||◌}
use Rattle.def_run.specs.Listing.{header_line}
use Rattle.def_term.specs.Names.{Name}
use Rattle.def_compare.specs.Entries.{possible_by}
use Rattle.def_compare.specs.Output.{match_text}
use Rattle.def_explore.specs.Output.{closing_line}
use Rattle.tn_comparison.specs.Matches.{trace_question_seen}
use Rattle.tn_explore.specs.Searches.{answer_entries}
use Rattle.tn_messages.specs.MessageViews.{kept_seen}
use Rattle.tn_answers.specs.AnswerViews.{session_header, session_name_seen}
use Rattle.tn_answers.proofs.FirstJournals.{seen_parts, whole_text}
use Rattle.tn_answers.proofs.text.trace_answer.Goals as goal

pub returns : goal.returns
returns g c =
    let e = c.args.exploration.now in
    let es = answer_entries (kept_seen {A = g.row.A.Denot}) e.answers.entries in
    let ss = c.args.sessions.now in
    let a = trace_question_seen c.args.question.now in
    let match = match_text a es e.is_complete (possible_by a es) in
    let end = closing_line e.states (length es) e.is_complete in
    λ b. record {
      text = whole_text c.new-text.result.items c.put_headers.new.out.items c.put_match.new.out.items c.put_explored.new.out.items
          (flat_map session_header ss) match (codes "== explored\n") end
          c.new-text.ensures.items c.in_ok-put_headers.ensures c.in_ok-is_possible.ensures.text c.in_ok-put_explored.ensures
          ∙ ap (λ hs. hs ++ match ++ codes "== explored\n" ++ end) (seen_parts (λ (s : Name × Name). header_line s.0 s.1) session_name_seen ss);
      unmet = c.is_impossible.ensures ∙ ap (λ (d : Bool). e.is_complete && not d) c.in_ok-is_possible.ensures.possible;
      settled = c.is_settled.ensures ∙ ap (λ (d : Bool). e.is_complete || d) c.in_ok-is_possible.ensures.possible;
    }
