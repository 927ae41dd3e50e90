use Rattle.def_explain.proofs.Remarks.{remark_is_of_reason, remark_has_its_reply, moves_have_the_remarks, nothing_after_commands, no_reason_line_no_remark}
use Rattle.def_explain.proofs.a_remark_has_a_reason.Goals as goal

pub returns-clause-exactly : goal.returns-clause-exactly
returns-clause-exactly c = remark_is_of_reason

pub returns-clause-reply : goal.returns-clause-reply
returns-clause-reply c = remark_has_its_reply

pub returns-clause-moves : goal.returns-clause-moves
returns-clause-moves c = moves_have_the_remarks

pub returns-clause-later : goal.returns-clause-later
returns-clause-later c = nothing_after_commands

pub returns-clause-none : goal.returns-clause-none
returns-clause-none c = no_reason_line_no_remark
