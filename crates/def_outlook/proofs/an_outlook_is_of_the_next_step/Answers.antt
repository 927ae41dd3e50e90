use Rattle.def_outlook.proofs.Outlooks.{error_ends_the_process, sudden_end_is_an_error, waiting_is_of_the_act, send_goes_to_the_addressee, catch_has_its_depth, no_catch_no_depth}
use Rattle.def_outlook.proofs.Limits.{error_is_of_its_limit}
use Rattle.def_outlook.proofs.OwnLinks.{own_link_is_of_the_act, own_act_is_an_own_link, own_link_has_no_event}
use Rattle.def_outlook.proofs.an_outlook_is_of_the_next_step.Goals as goal

pub returns : goal.returns
returns c = record {
  error = error_ends_the_process;
  sudden = sudden_end_is_an_error;
  limit = error_is_of_its_limit;
  waits = waiting_is_of_the_act;
  send = send_goes_to_the_addressee;
  own = own_link_is_of_the_act;
  own_act = own_act_is_an_own_link;
  no_event = own_link_has_no_event;
  caught = catch_has_its_depth;
  uncaught = no_catch_no_depth;
}
