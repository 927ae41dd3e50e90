-- What a search answers, as text.
-- Depends on the texts of words, of listings and of comparisons.
use Rattle.std.specs.Prelude.{◌≡◌, ◌++◌, ◌∷◌, [], Bool, false, length, List, map}
use Rattle.std.specs.List.{list_any}
use Rattle.def_explore.specs.Output.{words_text}
use Rattle.def_explore.specs.Words.{refutes}
use Rattle.def_compare.specs.Answers as definition
use Rattle.def_compare.specs.Answers.{about_patterns, about_trace, is_unmet, is_settled}
use Rattle.def_compare.specs.AnswerRows as rows
use Rattle.def_compare.specs.AnswerRows.{answer_in, asked_row, explored_row, json_answer, pattern_row, plain_answer, search_rows, summary_answer}
use Rattle.def_compare.specs.AnswerSummaries.{answer_text_in}
use Rattle.def_formats.specs.JsonRows.{json_lines}
use Rattle.tn_comparison.specs.Matches.{trace_question_seen}
use Rattle.tn_explore.specs.Searches.{answer_entries}
use Rattle.tn_explore.specs.declared.search.Exploration.{Exploration}
use Rattle.tn_message_pattern.specs.Questions.{pattern_question_seen}
use Rattle.tn_message_pattern.specs.declared.message_pattern.PatternQuestion.{PatternQuestion}
use Rattle.tn_messages.specs.MessageViews.{kept_seen}
use Rattle.tn_messages.specs.declared.kept_listings.KeptListings.{KeptListings}
use Rattle.tn_answers.specs.AnswerViews.{session_name_seen}
use Rattle.tn_answers.specs.declared.entry.SessionName.{SessionName}
use Rattle.tn_answers.specs.declared.form.AnswerForm.{AnswerForm}
use Rattle.tn_answers.specs.declared.form.AnswerForm.TheVariants.{Plain, Summary, Json}
use Rattle.tn_answers.specs.declared.text.SearchAnswer.{SearchAnswer}
use Rattle.tn_answers.specs.declared.text.SearchQuestion.{SearchQuestion}
use Rattle.tn_answers.specs.declared.text.SearchQuestion.TheVariants.{Patterns, Trace}

-- what is asked
abbrev pub search_question_seen : {P : Type 0} → SearchQuestion P → definition.SearchQuestion
search_question_seen (Patterns qs) = about_patterns (map pattern_question_seen qs.now)
search_question_seen (Trace a) = about_trace (trace_question_seen a.now)

-- the listings as JSON
pub record IsListingsJson {A N : Type 0} (ss : List (SessionName N)) (e : Exploration A (KeptListings A)) (a : SearchAnswer A) : Type 0 where
  pub text : a.text.items ≡ json_lines (search_rows (map session_name_seen ss) [] (answer_entries kept_seen e.answers.entries) e.is_complete ++ explored_row e.states (length (answer_entries kept_seen e.answers.entries)) e.is_complete ∷ [])
  pub unmet : a.is_unmet ≡ false
  pub settled : a.is_settled ≡ e.is_complete

-- the words for these patterns as JSON, and whether the entries refute what is demanded of one
pub record IsWordsJson {A N P : Type 0} (ss : List (SessionName N)) (qs : List (PatternQuestion P)) (e : Exploration A (KeptListings A)) (a : SearchAnswer A) : Type 0 where
  pub text : a.text.items ≡ json_lines ((map asked_row (map session_name_seen ss) ++ map (pattern_row (answer_entries kept_seen e.answers.entries) e.is_complete) (map pattern_question_seen qs)) ++ explored_row e.states (length (answer_entries kept_seen e.answers.entries)) e.is_complete ∷ [])
  pub unmet : a.is_unmet ≡ list_any (refutes (answer_entries kept_seen e.answers.entries) e.is_complete) (map pattern_question_seen qs)
  pub settled : a.is_settled ≡ e.is_complete

-- the words for these patterns, and whether the entries refute what is demanded of one
pub record IsWordsAnswer {A P : Type 0} (ss : List (SessionName A)) (qs : List (PatternQuestion P)) (e : Exploration A (KeptListings A)) (a : SearchAnswer A) : Type 0 where
  pub text : a.text.items ≡ words_text (map session_name_seen ss) (map pattern_question_seen qs) (answer_entries kept_seen e.answers.entries) e.states e.is_complete
  pub unmet : a.is_unmet ≡ list_any (refutes (answer_entries kept_seen e.answers.entries) e.is_complete) (map pattern_question_seen qs)
  pub settled : a.is_settled ≡ e.is_complete

-- the text for what is asked as lines for a reader, with the listings or with their summary, and how the search ends
pub record IsLinesAnswer {A N : Type 0} (is_summary : Bool) (ss : List (SessionName N)) (q : definition.SearchQuestion) (e : Exploration A (KeptListings A)) (a : SearchAnswer A) : Type 0 where
  pub text : a.text.items ≡ answer_text_in is_summary (map session_name_seen ss) q (answer_entries kept_seen e.answers.entries) e.states e.is_complete
  pub unmet : a.is_unmet ≡ is_unmet q (answer_entries kept_seen e.answers.entries) e.is_complete
  pub settled : a.is_settled ≡ is_settled q (answer_entries kept_seen e.answers.entries) e.is_complete

-- the form of an answer
abbrev pub form_seen : AnswerForm → rows.AnswerForm
form_seen Plain = plain_answer
form_seen Summary = summary_answer
form_seen Json = json_answer

-- the text for what is asked in a form, and how the search ends
pub record IsSearchAnswer {A N : Type 0} (form : rows.AnswerForm) (ss : List (SessionName N)) (q : definition.SearchQuestion) (e : Exploration A (KeptListings A)) (a : SearchAnswer A) : Type 0 where
  pub text : a.text.items ≡ answer_in form (map session_name_seen ss) q (answer_entries kept_seen e.answers.entries) e.states e.is_complete
  pub unmet : a.is_unmet ≡ is_unmet q (answer_entries kept_seen e.answers.entries) e.is_complete
  pub settled : a.is_settled ≡ is_settled q (answer_entries kept_seen e.answers.entries) e.is_complete
