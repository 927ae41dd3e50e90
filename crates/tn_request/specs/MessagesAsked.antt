-- The message by which the moves of a run are chosen, as a request asks for it (own).
-- Depends on which moves are chosen by a message, and on the patterns that texts spell.
use Rattle.std.specs.Prelude.{◌≡◌, ℕ, Bool, true, false, List, [], ◌∷◌, Some, codes}
use Rattle.def_spec.specs.Matching.{Pattern}
use Rattle.def_message_choice.specs.MessageChoices.{MessageChoice, sends, sends_none}
use Rattle.tn_exploration.specs.Questions.{IsQuestionFault}
use Rattle.tn_message_choice.specs.declared.choice.MessageChoice as code
use Rattle.tn_message_choice.specs.declared.choice.MessageFilter.TheVariants.{Choice}
use Rattle.tn_request.specs.declared.exploration.PatternsFault.{PatternsFault}
use Rattle.tn_request.specs.declared.request.MessageArgs.{MessageArgs}
use Rattle.tn_request.specs.declared.request.MessageRequest.{MessageRequest}
use Rattle.tn_request.specs.declared.request.RunRequest.{RunRequest}
use Rattle.tn_request.specs.declared.request.RunRequest.TheVariants.{Explain}

-- it is sent, or it isn't
abbrev pub choice_asked : (is_missing : Bool) → Pattern → MessageChoice
choice_asked true a = sends_none a
choice_asked false a = sends a

-- the option that has the pattern
abbrev pub pattern_option : (is_missing : Bool) → List ℕ
pattern_option true = codes "--why-not <PATTERN>"
pattern_option false = codes "--message <PATTERN>"

-- its text is no pattern
abbrev pub IsMessageFault : MessageArgs → PatternsFault → Type 0
IsMessageFault words e = (e.option.now ≡ pattern_option words.is_missing) × IsQuestionFault words.pattern.now e.fault

-- the run that is explained
abbrev pub chosen_run : MessageRequest → code.MessageChoice → RunRequest
chosen_run words choice = Explain words.script words.run words.filter (Some (Choice choice)) words.expectation
