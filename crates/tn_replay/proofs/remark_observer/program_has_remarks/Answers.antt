use Rattle.std.proofs.Common.{◌∙◌, ap}
use Rattle.tn_program.specs.Views.{program_of}
use Rattle.tn_replay.specs.RemarkedSessions.{has_some}
use Rattle.tn_replay.proofs.Remarks.{some_said}
use Rattle.tn_replay.proofs.remark_observer.program_has_remarks.Goals as goal

pub returns : goal.returns
returns g c = c.has_text.ensures ∙ ap has_some c.in_ok-texts.ensures ∙ some_said (program_of c.args.program.now) c.args.picks.now
