use Rattle.def_running_node.proofs.NotDetermined.{opening_has_one_line, event_has_lines_between, opening_is_not_determined, not_determined_in_move, not_determined_in_moves, no_later_line_in_move, no_later_line_in_moves, command_in_open_run, own_link_in_open_run, error_that_goes_on, run_is_not_determined_again, no_difference_in_later_moves}
use Rattle.def_running_node.proofs.nothing_follows_what_is_not_determined.Goals as goal

pub returns : goal.returns
returns c = record {
  one = opening_has_one_line;
  between = event_has_lines_between;
  after_event = opening_is_not_determined;
  in_move = not_determined_in_move;
  in_moves = not_determined_in_moves;
  no_line = no_later_line_in_move;
  no_line_of_moves = no_later_line_in_moves;
  after_command = command_in_open_run;
  after_own_link = own_link_in_open_run;
  error = error_that_goes_on;
  run = run_is_not_determined_again;
  one_of_run = no_difference_in_later_moves;
}
