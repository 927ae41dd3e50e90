-- The account of the moves that are asked for by a trace message, and what is asked for an account (own).
-- Depends on which moves are chosen by a message, on the move at which a session sends the message of a number, and on the account of a run.
use Rattle.std.specs.Prelude.{ℕ, if◌then◌else◌, List, [], flat_map, Option, Some, None}
use Rattle.def_term.specs.Names.{Name}
use Rattle.def_script.specs.Program.{Program}
use Rattle.def_script.specs.Exports.{Exports, exports_of}
use Rattle.def_run.specs.History.{MoveHistory, move_histories}
use Rattle.def_explain.specs.Runs.{entries_of_moments}
use Rattle.def_explain.specs.RunTexts.{Filter, is_move, filter_entries, entry_text, account_text}
use Rattle.def_running_node.specs.NodeNotes.{Question, question_text}
use Rattle.def_message_choice.specs.MessageChoices.{MessageChoice, is_chosen}
use Rattle.def_message_choice.specs.MessageNumbers.{move_of_message}

-- ---- the moves that are chosen by a message

-- a move, as far as the filter selects it
abbrev pub text_of_move : Exports → Filter → MoveHistory → List ℕ
text_of_move o a h = flat_map entry_text (filter_entries a h.number (entries_of_moments o h.outlook h.number h.pick h.moments))

-- the same where it is chosen by what the session of the filter sends, or any where it has none
abbrev pub text_of_chosen : MessageChoice → Exports → Filter → MoveHistory → List ℕ
text_of_chosen c o a h = if is_chosen c a.session h then text_of_move o a h else []

-- the moves of a run that are chosen
abbrev pub chosen_account_text : MessageChoice → Filter → Program → List ℕ → List ℕ
chosen_account_text c a p picks = flat_map (text_of_chosen c (exports_of p) a) (move_histories p picks)

-- ---- the move of a message of a number

-- that of the session of the filter; where it has none, no move is asked for
abbrev pub move_of_number : ℕ → Option Name → Program → List ℕ → Option ℕ
move_of_number k None p picks = None
move_of_number k (Some s) p picks = move_of_message s k p picks

-- the move of this number, where there is one and the filter selects it
abbrev pub text_of_number : Filter → Program → List ℕ → Option ℕ → List ℕ
text_of_number a p picks None = []
text_of_number a p picks (Some m) = if is_move a.move m then account_text (record { session = a.session; move = Some m }) p picks else []

-- the move at which the session of the filter sends its k-th message
abbrev pub number_account_text : ℕ → Filter → Program → List ℕ → List ℕ
number_account_text k a p picks = text_of_number a p picks (move_of_number k a.session p picks)

-- ---- what is asked

-- which moves are asked for by a trace message: those that are chosen by one, or that at which the session of the filter sends its message of this number
pub data MessageFilter : Type 0 where
  by_choice : MessageChoice → MessageFilter
  by_number : ℕ → MessageFilter

-- what is asked for an account: what is asked of a run, or of its moves those that are asked for by a message
pub record AccountQuestion : Type 0 where
  pub question : Question
  pub message : Option MessageFilter

-- those moves, where a message is asked for
abbrev pub asked_text : Option MessageFilter → Question → Program → List ℕ → List ℕ
asked_text None q p picks = question_text q p picks
asked_text (Some (by_choice c)) q p picks = chosen_account_text c q.filter p picks
asked_text (Some (by_number k)) q p picks = number_account_text k q.filter p picks

abbrev pub account_question_text : AccountQuestion → Program → List ℕ → List ℕ
account_question_text q p picks = asked_text q.message q.question p picks
