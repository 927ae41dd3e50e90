-- A line that a command says beside its output, on standard error (own).
-- Depends on faults and on how an output differs from the one that is expected.
use Rattle.std.specs.Prelude.{ℕ, zero, suc, List, [], ◌∷◌, ◌++◌, Option, Some, None, codes, decimal}
use Rattle.def_notice.specs.FaultTexts.{FaultSaid, of_memory, fault_text, SystemReason, broken_pipe, refused_memory, in_words}
use Rattle.def_notice.specs.DifferenceTexts.{OutputDifference, output_difference_text}

-- which command shows where a running node differs
pub data NodeCommand : Type 0 where
  -- by the same picks
  by_same_picks : NodeCommand
  -- by the picks of the journal
  by_journal : NodeCommand

abbrev pub node_command_text : NodeCommand → List ℕ
node_command_text by_same_picks = codes "explain --node"
node_command_text by_journal = codes "explain --node, by the picks of the journal,"

-- a text of the test of a match specification
pub data TestText : Type 0 where
  the_list : TestText
  the_caller : TestText
  the_specification : TestText

abbrev pub test_text_name : TestText → List ℕ
test_text_name the_list = codes "list"
test_text_name the_caller = codes "caller"
test_text_name the_specification = codes "specification"

-- why a text of a test isn't what it should be
pub data TestTextFault : Type 0 where
  -- it is no list
  is_no_list : TestTextFault
  -- it is no {Module,Function,Arity}
  is_no_function : TestTextFault
  -- it is no term: too long, or refused at this offset
  is_too_long : TestTextFault
  goes_on_otherwise : (at : ℕ) → TestTextFault
  is_too_deep : (at : ℕ) → TestTextFault
  is_too_large : (at : ℕ) → TestTextFault
  -- there was no memory to read it
  has_no_memory : TestTextFault
  -- another reason, in words
  fault_in_words : List ℕ → TestTextFault

abbrev pub test_fault_text : TestTextFault → List ℕ
test_fault_text is_no_list = codes "no list"
test_fault_text is_no_function = codes "no {Module,Function,Arity}"
test_fault_text is_too_long = codes "the text is too long"
test_fault_text (goes_on_otherwise at) = codes "no term goes on so at " ++ decimal at
test_fault_text (is_too_deep at) = codes "too deep at " ++ decimal at
test_fault_text (is_too_large at) = codes "too large at " ++ decimal at
test_fault_text has_no_memory = codes "out of memory"
test_fault_text (fault_in_words words) = words

-- a text that may be read from standard input, of which only one can
pub data InputText : Type 0 where
  the_script : InputText
  the_picks : InputText
  the_moves : InputText
  -- the output that is expected, and the listing of a session
  the_output : InputText
  the_listing : InputText

abbrev pub input_text_name : InputText → List ℕ
input_text_name the_script = codes "script"
input_text_name the_picks = codes "picks"
input_text_name the_moves = codes "moves"
input_text_name the_output = codes "expected output"
input_text_name the_listing = codes "expected listing"

-- what is said
pub data Notice : Type 0 where
  -- a line that another definition has: of a refusal, of the remarks on a run, of the notes on a test
  given_line : List ℕ → Notice
  -- a fault, and one with the system's reason
  of_fault : FaultSaid → Notice
  of_fault_because : FaultSaid → (reason : List ℕ) → Notice
  -- a file that can't be opened, and the system's reason
  no_file : (path reason : List ℕ) → Notice
  -- the command line
  both_from_input : InputText → InputText → Notice
  no_value : (text option reason : List ℕ) → Notice
  -- a text of the test of a match specification
  of_test_text : TestText → TestTextFault → Notice
  -- what is asked of an account: there is no such session, no such move, no such message of the session, and no move at which a running node differs;
  -- where it is known, which sessions are created, and how many moves or messages there are
  no_session : (name : List ℕ) → (sessions : Option (List ℕ)) → Notice
  no_move : (number : ℕ) → (moves : Option ℕ) → Notice
  no_message : (session : List ℕ) → (number : ℕ) → (messages : Option ℕ) → Notice
  no_node_move : Notice
  no_chosen_move : Notice
  -- of a run
  no_forms : Notice
  pick_of_nobody : (number pick : ℕ) → Notice
  node_moves : (differing moves : ℕ) → NodeCommand → Notice
  -- of an output that isn't what is expected
  of_difference : OutputDifference → Notice
  lacks_a_line : (line : List ℕ) → Notice
  has_a_line : (line : List ℕ) → Notice
  lacks_a_listing : (name : List ℕ) → Notice

-- which sessions a script creates
abbrev pub known_sessions_text : Option (List ℕ) → List ℕ
known_sessions_text None = []
known_sessions_text (Some []) = codes ": it creates none"
known_sessions_text (Some (b ∷ bs)) = codes ": it creates " ++ (b ∷ bs)

-- which moves a run has
abbrev pub moves_text : Option ℕ → List ℕ
moves_text None = []
moves_text (Some zero) = codes ": it has none"
moves_text (Some (suc n)) = codes ": its moves are 1 to " ++ decimal (suc n)

-- which messages a session sends
abbrev pub messages_text : Option ℕ → List ℕ
messages_text None = []
messages_text (Some zero) = codes ": it sends none"
messages_text (Some (suc n)) = codes ": its messages are 1 to " ++ decimal (suc n)

-- a file that can't be opened; it may have no name
abbrev pub no_file_text : (path reason : List ℕ) → List ℕ
no_file_text [] reason = codes "error: the name of a file is empty"
no_file_text (b ∷ bs) reason = codes "error: " ++ (b ∷ bs) ++ codes ": " ++ reason

-- the line
abbrev pub notice_text : Notice → List ℕ
notice_text (given_line line) = line
notice_text (of_fault f) = fault_text f
notice_text (of_fault_because f reason) = fault_text f ++ codes ": " ++ reason
notice_text (no_file path reason) = no_file_text path reason
notice_text (both_from_input one other) =
    codes "error: the " ++ input_text_name one ++ codes " and the " ++ input_text_name other ++ codes " can't both be standard input"
notice_text (no_value text option reason) =
    codes "error: invalid value '" ++ text ++ codes "' for '" ++ option ++ codes "': " ++ reason ++ codes "\n\nFor more information, try '--help'."
notice_text (of_test_text text f) = test_text_name text ++ codes ": " ++ test_fault_text f
notice_text (no_session name sessions) = codes "error: the script creates no session " ++ name ++ known_sessions_text sessions
notice_text (no_move n moves) = codes "error: the run has no move " ++ decimal n ++ moves_text moves
notice_text (no_message session n messages) = codes "error: the session " ++ session ++ codes " sends no message " ++ decimal n ++ messages_text messages
notice_text no_node_move = codes "note: a running node is known to do nothing otherwise there"
notice_text no_chosen_move = codes "error: the pattern selects no move of the run"
notice_text no_forms = codes "note: the script has no forms"
notice_text (pick_of_nobody n pick) =
    codes "note: pick " ++ decimal n ++ codes " is " ++ decimal pick ++ codes ", and no process has that pid: pids are 100 to 163, and 0 takes the next command"
notice_text (node_moves n m command) =
    codes "note: a running node differs at " ++ decimal n ++ codes " of " ++ decimal m ++ codes " moves; " ++ node_command_text command ++ codes " shows where"
notice_text (of_difference x) = output_difference_text x
notice_text (lacks_a_line line) = codes "error: the output has no line " ++ line
notice_text (has_a_line line) = codes "error: the output has the line " ++ line
notice_text (lacks_a_listing name) = codes "error: the output has no listing of a session " ++ name

-- what is said of a fault, where the system gives this reason: nothing where whoever read the output is gone
abbrev pub notice_of_fault : FaultSaid → Option SystemReason → Option Notice
notice_of_fault f None = Some (of_fault f)
notice_of_fault f (Some broken_pipe) = None
notice_of_fault f (Some refused_memory) = Some (of_fault of_memory)
notice_of_fault f (Some (in_words reason)) = Some (of_fault_because f reason)
