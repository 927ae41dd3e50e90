-- What the code's question for an account stands for, and the text that it gets.
use Rattle.std.specs.Prelude.{ℕ, Bool, ◌&&◌, List, [], ◌∷◌, flat_map, Option}
use Rattle.std.specs.Option.{option_map}
use Rattle.def_run.specs.Run.{event_item, command_item}
use Rattle.def_explain.specs.Runs.{AccountEntry, shows, shows_nothing}
use Rattle.def_explain.specs.RunTexts as definition
use Rattle.def_explain.specs.RunTexts.{is_session, is_move, entry_text, filter_entries, account_text}
use Rattle.def_running_node.specs.NodeNotes.{Question, question_text, node_account_text}
use Rattle.def_message_choice.specs.ChosenAccounts.{chosen_account_text, number_account_text, AccountQuestion, account_question_text}
use Rattle.tn_flags.specs.Views.{event_of, command_of}
use Rattle.tn_flags.specs.declared.event.Event.{Event}
use Rattle.tn_flags.specs.declared.command.Command.{Command}
use Rattle.tn_program.specs.Views.{program_of}
use Rattle.tn_program.specs.declared.parts.Program.{Program}
use Rattle.tn_message_choice.specs.Choices.{choice_seen, filter_seen}
use Rattle.tn_message_choice.specs.declared.choice.MessageChoice.{MessageChoice}
use Rattle.tn_message_choice.specs.declared.choice.MessageFilter.{MessageFilter}
use Rattle.tn_explain.specs.declared.filter.Filter.{Filter}
use Rattle.tn_explain.specs.declared.selection.Selection.{Selection}
use Rattle.tn_explain.specs.declared.step.Step.{Step}

abbrev pub selection_seen : Selection → definition.Filter
selection_seen a = record { session = option_map (λ s. s.now) a.session; move = a.move_number }

abbrev pub question_seen : Filter → Question
question_seen a = record { filter = record { session = option_map (λ s. s.now) a.session; move = a.move_number }; node = a.node }

-- with the message that is asked for, where one is
abbrev pub account_question_seen : Filter → Option MessageFilter → AccountQuestion
account_question_seen a m = record { question = question_seen a; message = option_map filter_seen m }

-- the text of those of the entries that are selected, after the move of this number
abbrev pub filtered_text : definition.Filter → ℕ → List AccountEntry → List ℕ
filtered_text a k es = flat_map entry_text (filter_entries a k es)

-- the same, after the move that is written of
abbrev pub text_by : Step → List AccountEntry → List ℕ
text_by step es = filtered_text (selection_seen step.selection.now) step.number es

-- the line of the move that shows this event, where the move is asked for
abbrev pub text_of_event : {A : Type 0} → Step → Event A → List ℕ
text_of_event step event = text_by step (shows step.number step.pick (event_item (event_of event)) ∷ [])

-- the line of the move that shows this command, where the move is asked for
abbrev pub text_of_command : {A : Type 0} → Step → Command A → List ℕ
text_of_command step command = text_by step (shows step.number step.pick (command_item (command_of command)) ∷ [])

-- the line of the move that shows nothing, where the move is asked for
abbrev pub text_of_nothing : Step → List ℕ
text_of_nothing step = text_by step (shows_nothing step.number step.pick ∷ [])

-- it is asked for what the session of this name makes of the move
abbrev pub is_asked : Step → List ℕ → Bool
is_asked step name = is_move (selection_seen step.selection.now).move step.number && is_session (selection_seen step.selection.now).session name

-- what is selected of the program's run by these picks
abbrev pub selected_of : {A : Type 0} → Selection → Program A → List ℕ → List ℕ
selected_of a program picks = account_text (selection_seen a) (program_of program) picks

-- the same of the moves alone that a running node does otherwise
abbrev pub node_moves_of : {A : Type 0} → Selection → Program A → List ℕ → List ℕ
node_moves_of a program picks = node_account_text (selection_seen a) (program_of program) picks

-- the account of the program's run by these picks, as far as it is asked for
abbrev pub account_of : {A : Type 0} → Filter → Program A → List ℕ → List ℕ
account_of filter program picks = question_text (question_seen filter) (program_of program) picks

-- the same of the moves alone that are chosen by a message
abbrev pub chosen_moves_of : {A : Type 0} → MessageChoice → Selection → Program A → List ℕ → List ℕ
chosen_moves_of c a program picks = chosen_account_text (choice_seen c) (selection_seen a) (program_of program) picks

-- and of the move of the message of a number
abbrev pub number_move_of : {A : Type 0} → ℕ → Selection → Program A → List ℕ → List ℕ
number_move_of k a program picks = number_account_text k (selection_seen a) (program_of program) picks

-- the account, or where a message is asked for that of the moves that are asked for by it
abbrev pub asked_of : {A : Type 0} → Filter → Option MessageFilter → Program A → List ℕ → List ℕ
asked_of filter m program picks = account_question_text (account_question_seen filter m) (program_of program) picks
