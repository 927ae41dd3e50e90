use Rattle.std.proofs.Common.{◌∙◌}
use Rattle.tn_messages.proofs.Seconds.{few_have_none, second_is}
use Rattle.tn_messages.proofs.shared_message.second_pid.Goals as goal

pub returns-then-items-lt2 : goal.returns-then-items-lt2
returns-then-items-lt2 g c = few_have_none c.args.items.now c.if-items-lt2.true

pub returns : goal.returns
returns g c = c.pid_in.ensures ∙ second_is c.args.items.now c.index-items-1.result c.if-items-lt2.false c.index-items-1.is
