use Rattle.std.proofs.Common.{◌≡◌, ◌++◌, ◌||◌, drop, flat_map}
use Rattle.std.specs.List.{list_any}
use Rattle.def_explore.specs.Output.{pattern_answer_text}
use Rattle.def_explore.specs.Words.{refutes}
use Rattle.tn_explore.specs.Searches.{answer_entries}
use Rattle.tn_message_pattern.specs.Questions.{pattern_question_seen}
use Rattle.tn_messages.specs.MessageViews.{kept_seen}
use Rattle.tn_answers.proofs.words.put_patterns.Given as goal

abbrev pub invariant-loop-question : goal.invariant-loop-question
invariant-loop-question g l =
    let es = answer_entries kept_seen l.exploration.answers.entries in
    let whole = l.exploration.is_complete in
    (l.out.items ++ flat_map (λ q. pattern_answer_text es whole (pattern_question_seen q)) (drop l.question-index l.questions) ≡ l.fn.out.items ++ flat_map (λ q. pattern_answer_text es whole (pattern_question_seen q)) l.questions)
    × ((l.refuted || list_any (λ q. refutes es whole (pattern_question_seen q)) (drop l.question-index l.questions)) ≡ list_any (λ q. refutes es whole (pattern_question_seen q)) l.questions)
