use Rattle.def_run.proofs.Histories.{history_has_the_listing, history_has_the_replies}
use Rattle.def_run.proofs.HistoryAnswers.{history_shows_the_events, history_has_the_moves, history_is_numbered, history_goes_by_the_views, history_has_the_answer, history_has_the_answers}
use Rattle.def_run.proofs.listings_are_in_the_history.Goals as goal

pub returns : goal.returns
returns c = record {
  events = history_shows_the_events;
  moves = history_has_the_moves;
  numbers = history_is_numbered;
  states = history_goes_by_the_views;
  listing = history_has_the_listing;
  replies = history_has_the_replies;
  answer = history_has_the_answer;
  answers = history_has_the_answers;
}
