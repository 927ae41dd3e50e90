-- The exploration that a request asks for, and the exit status of a request (own).
-- Depends on what is asked of all schedules, and on the exit status of a command.
use Rattle.std.specs.Prelude.{◌≡◌, ◌⊎◌, ◌++◌, ℕ, List, codes}
use Rattle.std.specs.declared.alloc.Global.{Global}
use Rattle.def_explore.specs.Words as words
use Rattle.tn_answers.specs.declared.text.SearchQuestion.{SearchQuestion}
use Rattle.tn_command.specs.Explorations.{IsExplorationStatus}
use Rattle.tn_command.specs.Status.{IsStatus}
use Rattle.tn_expectation.specs.Expectations.{words_of}
use Rattle.tn_exploration.specs.Questions.{IsQuestionOf, IsTextsFault}
use Rattle.tn_exploration.specs.declared.request.ExploreRequest.{ExploreRequest}
use Rattle.tn_moves.specs.Schedules.{by_moves, schedule_seen}
use Rattle.tn_trace.specs.Slots.{EachPair}
use Rattle.tn_request.specs.declared.exploration.PatternsFault.{PatternsFault}
use Rattle.tn_request.specs.declared.request.ExploreArgs.{ExploreArgs}
use Rattle.tn_request.specs.declared.request.Request.{Request}
use Rattle.tn_request.specs.declared.request.Request.TheVariants.{Run, Message, Workers, Spec, Fun, Explore}

-- the schedules begin with the moves of the text, this is asked, and the rest is as the words say
pub record IsExplorationAsked (args : ExploreArgs) (asked : SearchQuestion Global) (q : ExploreRequest) : Type 0 where
  pub schedule : schedule_seen q.schedule ≡ by_moves args.before.now
  pub order : q.order ≡ args.order
  pub session : q.session ≡ args.session
  pub question : q.question ≡ asked
  pub max_states : q.max_states ≡ args.max_states
  pub reduces : q.reduces ≡ args.reduces
  pub random : q.random ≡ args.random
  pub form : q.form ≡ args.form

-- the patterns that the texts of each option spell, with what the option demands
pub record ArePatternsAsked (args : ExploreArgs) (qs : List words.PatternQuestion) : Type 0 where
  pub shows : List words.PatternQuestion
  pub always : List words.PatternQuestion
  pub never : List words.PatternQuestion
  pub sometimes : List words.PatternQuestion
  pub of_shows : EachPair (IsQuestionOf words.any_word) (words_of args.shows.now) shows
  pub of_always : EachPair (IsQuestionOf words.only_always) (words_of args.always.now) always
  pub of_never : EachPair (IsQuestionOf words.only_never) (words_of args.never.now) never
  pub of_sometimes : EachPair (IsQuestionOf words.only_sometimes) (words_of args.sometimes.now) sometimes
  pub all : qs ≡ shows ++ always ++ never ++ sometimes

-- a text of this option is no pattern
abbrev pub IsOptionFault : (option : List ℕ) → (texts : List (List ℕ)) → PatternsFault → Type 0
IsOptionFault option texts e = (e.option.now ≡ option) × IsTextsFault texts e.fault

-- a text of one of the options
abbrev pub IsPatternsFault : ExploreArgs → PatternsFault → Type 0
IsPatternsFault args e =
    IsOptionFault (codes "--shows <PATTERN>") (words_of args.shows.now) e
    ⊎ (IsOptionFault (codes "--always <PATTERN>") (words_of args.always.now) e
    ⊎ (IsOptionFault (codes "--never <PATTERN>") (words_of args.never.now) e
    ⊎ IsOptionFault (codes "--sometimes <PATTERN>") (words_of args.sometimes.now) e))

-- an exploration may have one more status than other requests have
abbrev pub IsRequestStatus : Request → ℕ → Type 0
IsRequestStatus (Run run) n = IsStatus n
IsRequestStatus (Message m) n = IsStatus n
IsRequestStatus (Workers workers) n = IsStatus n
IsRequestStatus (Spec trial) n = IsStatus n
IsRequestStatus (Fun fun) n = IsStatus n
IsRequestStatus (Explore exploration) n = IsExplorationStatus n
