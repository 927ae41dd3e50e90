use Rattle.def_session.proofs.Ends.{return_ends_the_mark, return_ends_no_other_mark, raise_ends_the_mark, raise_ends_no_other_mark, exit_ends_the_flags, exit_ends_the_marks, marks_of_others_stay, exit_ends_the_life}
use Rattle.def_session.proofs.ends_take_marks_and_flags.Goals as goal

pub returns : goal.returns
returns c = record {
  returned = return_ends_the_mark;
  alone = return_ends_no_other_mark;
  raised = raise_ends_the_mark;
  raised_alone = raise_ends_no_other_mark;
  flags = exit_ends_the_flags;
  marks = exit_ends_the_marks;
  others = marks_of_others_stay;
  life = exit_ends_the_life;
}
