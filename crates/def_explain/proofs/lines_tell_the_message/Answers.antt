use Rattle.def_explain.proofs.AccountLines.{lines_tell_the_message}
use Rattle.def_explain.proofs.lines_tell_the_message.Goals as goal

pub returns : goal.returns
returns c = lines_tell_the_message
