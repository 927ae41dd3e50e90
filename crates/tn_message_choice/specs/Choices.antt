-- What is asked of the messages of a run, as the definitions have it.
-- Depends on which moves are chosen by a message.
use Rattle.std.specs.Prelude.{◌||◌, Bool, false, true, Option}
use Rattle.std.specs.Option.{option_map}
use Rattle.def_term.specs.Names.{Name}
use Rattle.def_spec.specs.Matching.{Pattern}
use Rattle.def_node.specs.Event.{Event}
use Rattle.def_explore.specs.Words.{is_match}
use Rattle.def_message_choice.specs.MessageChoices as definition
use Rattle.def_message_choice.specs.MessageChoices.{sends, sends_none, flag_message}
use Rattle.def_message_choice.specs.ChosenAccounts as accounts
use Rattle.def_message_choice.specs.ChosenAccounts.{by_choice, by_number}
use Rattle.tn_spec.specs.Views.{pattern_seen}
use Rattle.tn_message_choice.specs.declared.choice.MessageChoice.{MessageChoice}
use Rattle.tn_message_choice.specs.declared.choice.MessageChoice.TheVariants.{Sends, SendsNone}
use Rattle.tn_message_choice.specs.declared.choice.MessageFilter.{MessageFilter}
use Rattle.tn_message_choice.specs.declared.choice.MessageFilter.TheVariants.{Choice, Number}
use Rattle.tn_message_choice.specs.declared.choice.MessageQuestion.{MessageQuestion}

abbrev pub choice_seen : MessageChoice → definition.MessageChoice
choice_seen (Sends pattern) = sends (pattern_seen pattern.now.pattern)
choice_seen (SendsNone pattern) = sends_none (pattern_seen pattern.now.pattern)

-- which moves are asked for
abbrev pub filter_seen : MessageFilter → accounts.MessageFilter
filter_seen (Choice c) = by_choice (choice_seen c)
filter_seen (Number k) = by_number k

-- the name of the session that is asked about
abbrev pub session_asked : MessageQuestion → Option Name
session_asked q = option_map (λ s. s.now) q.session

-- one of both messages of an event would match
abbrev pub one_would_match : Pattern → Event → Bool
one_would_match a e = is_match a (flag_message false e) || is_match a (flag_message true e)
