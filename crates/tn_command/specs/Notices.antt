-- What is said of the outcomes and the faults of jobs, and of the test of a match specification (own).
-- Depends on what is said beside an output, and on outcomes and faults.
use Rattle.std.specs.Prelude.{◌≡◌, ◌≢◌, ◌⊎◌, ℕ, ◌<◌, ◌^◌, true, false, List, [], ◌∷◌, ◌++◌, length, map, drop, codes, decimal, Option, Some, None, if◌then◌else◌}
use Rattle.std.specs.Option.{option_map}
use Rattle.def_term.specs.Names.{Name}
use Rattle.def_term.specs.Text.{is_digit, atom_text}
use Rattle.def_text.specs.Places.{LineColumn, place_at}
use Rattle.def_script.specs.Program.{Program}
use Rattle.def_script.specs.Script.{IsScript, creations}
use Rattle.def_run.specs.Run.{moves}
use Rattle.def_run.specs.Listing.{messages}
use Rattle.def_moves.specs.Texts.{MovesPiece, first_piece, pids_named}
use Rattle.def_explain.specs.EmptyScripts.{is_gap}
use Rattle.def_notice.specs.FaultTexts.{FaultSaid, of_reading, of_writing, of_memory, of_workers, of_bytes, of_listings}
use Rattle.def_notice.specs.MovesTexts.{MovesReason, no_mover, no_number, no_count, no_start, many_starts, no_program, too_many_bytes, no_directive_at, bad_moves_text}
use Rattle.def_notice.specs.NoticeTexts.{NodeCommand, by_same_picks, by_journal, the_list, the_caller, is_no_list, is_no_function, Notice, of_fault, of_test_text, no_session, no_move, no_message, no_node_move, no_chosen_move, no_forms}
use Rattle.tn_moves.specs.Schedules.{OfPicks, schedule_seen}
use Rattle.tn_moves.specs.declared.schedule.Schedule.{Schedule}
use Rattle.tn_moves.specs.declared.schedule.Schedule.TheVariants.{Picks, Moves, Round, ControlFirst}
use Rattle.tn_moves.specs.declared.text.MovesRefusal.{MovesRefusal}
use Rattle.tn_moves.specs.declared.text.MovesRefusal.TheVariants.{TooLong, NoDirective}
use Rattle.tn_run.specs.declared.fault.RunFault.{RunFault}
use Rattle.tn_run.specs.declared.fault.RunFault.TheVariants as runs
use Rattle.tn_run.specs.declared.fault.LiveFault.{LiveFault}
use Rattle.tn_run.specs.declared.fault.LiveFault.TheVariants as lives
use Rattle.tn_message_choice.specs.declared.choice.MessageFilter.{MessageFilter}
use Rattle.tn_message_choice.specs.declared.choice.MessageFilter.TheVariants.{Choice, Number}
use Rattle.tn_explain.specs.declared.request.ExplainOutcome.{ExplainOutcome}
use Rattle.tn_explain.specs.declared.request.ExplainOutcome.TheVariants as explained
use Rattle.tn_state.specs.declared.request.StateOutcome.{StateOutcome}
use Rattle.tn_state.specs.declared.request.StateOutcome.TheVariants as states
use Rattle.tn_verdict.specs.declared.spec_test_input.SpecTestFault.{SpecTestFault}
use Rattle.tn_verdict.specs.declared.spec_test_input.SpecTestFault.TheVariants as tests
use Rattle.tn_command.specs.declared.moves_line.WrongPiece.{WrongPiece}
use Rattle.tn_command.specs.declared.run_outline.RunOutline.{RunOutline}
use Rattle.tn_command.specs.declared.output_fault.OutputFault.{OutputFault}
use Rattle.tn_command.specs.declared.output_fault.OutputFault.TheVariants as outputs

-- ---- faults

-- of a run
abbrev pub run_fault_said : RunFault → FaultSaid
run_fault_said runs.Read = of_reading
run_fault_said (runs.Write written) = of_writing written
run_fault_said runs.OutOfMemory = of_memory

-- of a run by workers
abbrev pub live_fault_said : LiveFault → FaultSaid
live_fault_said (lives.Run f) = run_fault_said f
live_fault_said (lives.Pool f) = of_workers

-- of a job whose output has a bound, where a fault of the job itself is said so
abbrev pub output_fault_said : {F : Type 0} → (F → FaultSaid) → OutputFault F → FaultSaid
output_fault_said said (outputs.Job f) = said f
output_fault_said said (outputs.TooLong bytes most) = of_bytes bytes most
output_fault_said said (outputs.ListingsTooLong most) = of_listings most

-- ---- outcomes

-- where no move is asked for by a message: the session of this name sends none of its number, or no message chooses one
abbrev pub notice_of_message : Option MessageFilter → (session : List ℕ) → (messages : Option ℕ) → Notice
notice_of_message None session messages = no_chosen_move
notice_of_message (Some (Choice c)) session messages = no_chosen_move
notice_of_message (Some (Number k)) session messages = no_message session k messages

-- of an account that is asked for of the session of a name, of the move of a number, or by a message; a refusal has a line of its own
abbrev pub notice_of_account : ExplainOutcome → Option MessageFilter → (name : List ℕ) → (number : ℕ) → RunOutline → Option Notice
notice_of_account explained.Account m name n known = None
notice_of_account (explained.Refused r) m name n known = None
notice_of_account explained.NoSession m name n known = Some (no_session name (option_map (λ s. s.now) known.sessions))
notice_of_account explained.NoMove m name n known = Some (no_move n known.moves)
notice_of_account explained.NoDifference m name n known = Some no_node_move
notice_of_account explained.NoMessage m name n known = Some (notice_of_message m name known.messages)

-- the names of sessions, with commas between them
abbrev pub names_after : List ℕ → List (Name × Name) → List ℕ
names_after between [] = []
names_after between (s ∷ ss) = between ++ atom_text s.0 ++ names_after (codes ", ") ss

-- of those that a program creates, in the order of its control list
abbrev pub session_names : Program → List ℕ
session_names p = names_after [] (creations p.commands)

-- they are those of a script with these bytes, where they are known
abbrev pub AreSessionsOf : (script : List ℕ) → Option (List ℕ) → Type 0
AreSessionsOf script None = Unit {0}
AreSessionsOf script (Some names) = (p : Program) × IsScript script p × (names ≡ session_names p)

-- a run of a script with these bytes by a schedule has so many moves, where that is known
abbrev pub AreMovesOfRun : (script : List ℕ) → Schedule → Option ℕ → Type 0
AreMovesOfRun script schedule None = Unit {0}
AreMovesOfRun script schedule (Some n) = (p : Program) × IsScript script p × OfPicks (schedule_seen schedule) p (λ picks. n ≡ length (moves p picks))

-- the session of this name sends so many messages in a run of a script with these bytes by a schedule, where that is known
abbrev pub AreMessagesOfRun : (script : List ℕ) → Schedule → (session : List ℕ) → Option ℕ → Type 0
AreMessagesOfRun script schedule session None = Unit {0}
AreMessagesOfRun script schedule session (Some n) = (p : Program) × IsScript script p × OfPicks (schedule_seen schedule) p (λ picks. n ≡ length (messages session p picks))

-- of a state that is asked for of the session of a name, after the move of a number
abbrev pub notice_of_state : StateOutcome → (name : List ℕ) → (number : ℕ) → RunOutline → Option Notice
notice_of_state states.State name n known = None
notice_of_state (states.Refused r) name n known = None
notice_of_state states.NoSession name n known = Some (no_session name (option_map (λ s. s.now) known.sessions))
notice_of_state states.NoMove name n known = Some (no_move n known.moves)

-- of a script with these bytes
abbrev pub notice_of_forms : List ℕ → Option Notice
notice_of_forms bytes = if is_gap false bytes then Some no_forms else None

-- which command shows where a node differs in a run by a schedule
abbrev pub node_command_of : Schedule → NodeCommand
node_command_of (Picks text) = by_same_picks
node_command_of (Moves text) = by_journal
node_command_of (Round limit) = by_journal
node_command_of (ControlFirst limit) = by_journal

-- ---- texts of moves

-- the functions in which initial processes start
abbrev pub start_functions : Program → List Name
start_functions p = map (λ e. e.function_name) p.entries

-- why no directive stands at a piece that begins with a name, where the initial processes that have it have these pids
abbrev pub reason_of_name : Program → MovesPiece → (pids : List ℕ) → MovesReason
reason_of_name p x [] = no_start x.mover (start_functions p)
reason_of_name p x (n ∷ []) = no_count x.mover x.amount
reason_of_name p x (n ∷ m ∷ ns) = many_starts x.mover (n ∷ m ∷ ns)

-- what the code has of a piece
abbrev pub wrong_piece_seen : WrongPiece → MovesPiece
wrong_piece_seen x = record { mover = x.mover.now; amount = x.amount.now }

-- the piece at an offset
abbrev pub piece_at : (moves : List ℕ) → ℕ → MovesPiece
piece_at moves at = first_piece (drop at moves)

-- what says who moves begins with a digit, or with another byte
abbrev pub BeginsNumber : List ℕ → Type 0
BeginsNumber [] = ⊥
BeginsNumber (b ∷ bs) = is_digit b ≡ true

abbrev pub BeginsName : List ℕ → Type 0
BeginsName [] = ⊥
BeginsName (b ∷ bs) = is_digit b ≡ false

-- why no directive stands at a piece that begins with a digit: it begins with no number, or how often it moves isn't what stands after that
abbrev pub IsReasonOfNumber : MovesPiece → MovesReason → Type 0
IsReasonOfNumber x r =
    (((n : ℕ) → n < 2 ^ 32 → x.mover ≢ decimal n) × (r ≡ no_number x.mover)) ⊎ (((n : ℕ) × (x.mover ≡ decimal n) × (n < 2 ^ 32)) × (r ≡ no_count x.mover x.amount))

-- why none stands at a piece that begins with no name; none where it begins with one
abbrev pub IsReasonWithoutName : MovesPiece → Option MovesReason → Type 0
IsReasonWithoutName x None = BeginsName x.mover
IsReasonWithoutName x (Some r) = ((x.mover ≡ []) × (r ≡ no_mover x.amount)) ⊎ (BeginsNumber x.mover × IsReasonOfNumber x r)

-- why none stands at a piece of a text for a script with these bytes, which begins with a name; it may not be known, where memory was refused
abbrev pub IsReasonOfName : (script : List ℕ) → MovesPiece → MovesReason → Type 0
IsReasonOfName script x r = (r ≡ no_program) ⊎ ((p : Program) × IsScript script p × (r ≡ reason_of_name p x (pids_named p x.mover)))

-- why none stands at a piece
abbrev pub IsReasonAt : (script : List ℕ) → MovesPiece → MovesReason → Type 0
IsReasonAt script x r = IsReasonWithoutName x (Some r) ⊎ (BeginsName x.mover × IsReasonOfName script x r)

-- the line of a text of moves in which none stands at this place, where this piece is
abbrev pub IsDirectiveLine : (script : List ℕ) → MovesPiece → LineColumn → (line : List ℕ) → Type 0
IsDirectiveLine script x p line = (r : MovesReason) × IsReasonAt script x r × (line ≡ bad_moves_text (no_directive_at p r))

-- the line of a text of moves for a script with these bytes
abbrev pub IsMovesLine : (script moves : List ℕ) → MovesRefusal → (line : List ℕ) → Type 0
IsMovesLine script moves TooLong line = line ≡ bad_moves_text too_many_bytes
IsMovesLine script moves (NoDirective at) line = IsDirectiveLine script (piece_at moves at) (place_at moves at) line

-- ---- tests of match specifications

-- of a test, where its fault needs no other words
abbrev pub notice_of_test : {A : Type 0} → SpecTestFault A → Option Notice
notice_of_test tests.NoList = Some (of_test_text the_list is_no_list)
notice_of_test tests.NoCaller = Some (of_test_text the_caller is_no_function)
notice_of_test tests.OutOfMemory = Some (of_fault of_memory)
notice_of_test f = None
