use Rattle.def_notice.proofs.NoticeLines.{notice_is_a_line}
use Rattle.def_notice.proofs.laws.a_notice_is_one_line.Goals as goal

pub returns : goal.returns
returns c = notice_is_a_line
