-- What the code's notices stand for.
-- Depends on what is said beside an output.
use Rattle.std.specs.Prelude.{ℕ, List, Option}
use Rattle.std.specs.Option.{option_map}
use Rattle.def_notice.specs.NoticeTexts as texts
use Rattle.tn_notice.specs.declared.notice.NodeCommand.{NodeCommand}
use Rattle.tn_notice.specs.declared.notice.NodeCommand.TheVariants as commands
use Rattle.tn_notice.specs.declared.notice.InputText.{InputText}
use Rattle.tn_notice.specs.declared.notice.InputText.TheVariants as inputs
use Rattle.tn_notice.specs.declared.notice.SessionsText.{SessionsText}
use Rattle.tn_notice.specs.declared.notice.Notice.{Notice}
use Rattle.tn_notice.specs.declared.notice.Notice.TheVariants as notices
use Rattle.tn_notice.specs.FaultViews.{command_fault_seen}
use Rattle.tn_notice.specs.DifferenceViews.{difference_seen_of}
use Rattle.tn_notice.specs.TestViews.{test_text_seen, test_fault_seen}

abbrev pub command_seen_of : NodeCommand → texts.NodeCommand
command_seen_of commands.SamePicks = texts.by_same_picks
command_seen_of commands.Journal = texts.by_journal

abbrev pub input_text_seen : InputText → texts.InputText
input_text_seen inputs.Script = texts.the_script
input_text_seen inputs.Picks = texts.the_picks
input_text_seen inputs.Moves = texts.the_moves
input_text_seen inputs.Output = texts.the_output
input_text_seen inputs.Listing = texts.the_listing

-- the names that are known
abbrev pub known_names : SessionsText → Option (List ℕ)
known_names s = option_map (λ names. names.now) s.names

abbrev pub notice_seen : Notice → texts.Notice
notice_seen (notices.Line line) = texts.given_line line.now
notice_seen (notices.Fault f) = texts.of_fault (command_fault_seen f)
notice_seen (notices.FaultBecause f reason) = texts.of_fault_because (command_fault_seen f) reason.now
notice_seen (notices.NoFile path reason) = texts.no_file path.now reason.now
notice_seen (notices.BothFromInput one other) = texts.both_from_input (input_text_seen one) (input_text_seen other)
notice_seen (notices.NoValue text option reason) = texts.no_value text.now option.now reason.now
notice_seen (notices.TestText text f) = texts.of_test_text (test_text_seen text) (test_fault_seen f)
notice_seen (notices.NoSession name sessions) = texts.no_session name.now (option_map (λ s. s.now) sessions)
notice_seen (notices.NoMove n moves) = texts.no_move n moves
notice_seen (notices.NoMessage session n messages) = texts.no_message session.now n messages
notice_seen notices.NoNodeMove = texts.no_node_move
notice_seen notices.NoChosenMove = texts.no_chosen_move
notice_seen notices.NoForms = texts.no_forms
notice_seen (notices.PickOfNobody n pick) = texts.pick_of_nobody n pick
notice_seen (notices.NodeMoves n m command) = texts.node_moves n m (command_seen_of command)
notice_seen (notices.Difference x) = texts.of_difference (difference_seen_of x)
notice_seen (notices.LacksLine line) = texts.lacks_a_line line.now
notice_seen (notices.HasLine line) = texts.has_a_line line.now
notice_seen (notices.LacksListing name) = texts.lacks_a_listing name.now

abbrev pub notices_seen : Option Notice → Option texts.Notice
notices_seen n = option_map notice_seen n
