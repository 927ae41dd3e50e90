use Rattle.std.proofs.Common.{◌∙◌, sym, ap, refl, Some}
use Rattle.tn_flags.specs.Views.{command_of}
use Rattle.tn_refusal.specs.RuleViews.{creates_in_role}
use Rattle.tn_refusal.proofs.RuleReasons.{passing_found, passing_next, passing_none}
use Rattle.tn_refusal.proofs.sessions.created_in.Goals as goal

pub loop-command-init : goal.loop-command-init
loop-command-init g c = refl

pub returns-then-creates : goal.returns-then-creates
returns-then-creates g c =
    ap Some c.session.ensures
    ∙ passing_found (creates_in_role c.args.role c.args.name.now) (command_of {A = g.row.A.Denot}) c.args.commands.now c.loop-command.command-index c.command-item.result c.loop-command-test.true c.command-item.is
    (sym c.creates.ensures ∙ c.if-creates.true) c.loop-command.invariant

pub loop-command-preserved : goal.loop-command-preserved
loop-command-preserved g c =
    passing_next (creates_in_role c.args.role c.args.name.now) (command_of {A = g.row.A.Denot}) c.args.commands.now c.loop-command.command-index c.command-item.result c.loop-command-test.true c.command-item.is
    (sym c.creates.ensures ∙ c.if-creates.false) c.loop-command.invariant

pub returns : goal.returns
returns g c = passing_none (creates_in_role c.args.role c.args.name.now) (command_of {A = g.row.A.Denot}) c.args.commands.now c.loop-command.command-index c.loop-command-test.false c.loop-command.invariant
