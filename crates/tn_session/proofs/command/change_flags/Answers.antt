use Rattle.std.proofs.Common.{◌∙◌, sym, ap}
use Rattle.def_session.specs.Commands.{changed_flags}
use Rattle.tn_flags.specs.Views.{flags_of}
use Rattle.tn_session.proofs.command.change_flags.Goals as goal

pub returns-then-on : goal.returns-then-on
returns-then-on c = c.join.ensures ∙ sym (ap (λ b. changed_flags b (flags_of c.args.flags) (flags_of c.args.old)) c.if-on.true)

pub returns-else-on : goal.returns-else-on
returns-else-on c = c.without.ensures ∙ sym (ap (λ b. changed_flags b (flags_of c.args.flags) (flags_of c.args.old)) c.if-on.false)
