use Rattle.def_running_node.proofs.NodeCommands.{command_has_lines_between, other_command_has_no_line, own_link_has_its_line, own_unlink_has_its_line, options_count_once, no_arity_matches_none}
use Rattle.def_running_node.proofs.a_command_has_the_lines_of_its_reply.Goals as goal

pub returns : goal.returns
returns c = record {
  own = command_has_lines_between;
  other = other_command_has_no_line;
  own_link = own_link_has_its_line;
  own_unlink = own_unlink_has_its_line;
  options = options_count_once;
  no_arity = no_arity_matches_none;
}
