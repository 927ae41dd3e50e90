use Rattle.std.proofs.Common.{sym, arith}
use Rattle.def_wording.specs.RuleTexts.{unmade_session}
use Rattle.tn_flags.specs.Views.{command_of}
use Rattle.tn_program.specs.Commands.{form_commands}
use Rattle.tn_refusal.proofs.Firsts.{first_begins, found_here, found_later, found_nowhere}
use Rattle.tn_refusal.proofs.sessions.first_unmade.Goals as goal

pub loop-i-init : goal.loop-i-init
loop-i-init g c = first_begins unmade_session command_of (form_commands c.args.earlier.now) c.args.commands.now

pub returns-in-Some : goal.returns-in-Some
returns-in-Some g c = found_here unmade_session command_of (form_commands c.args.earlier.now) c.args.commands.now c.loop-i.i c.index-commands-i.result _ (omega arith) c.index-commands-i.is (sym c.in-Some.ensures) c.loop-i.invariant

pub loop-i-preserved : goal.loop-i-preserved
loop-i-preserved g c = found_later unmade_session command_of (form_commands c.args.earlier.now) c.args.commands.now c.loop-i.i c.index-commands-i.result (omega arith) c.index-commands-i.is (sym c.in-None.ensures) c.loop-i.invariant

pub returns : goal.returns
returns g c = found_nowhere unmade_session command_of (form_commands c.args.earlier.now) c.args.commands.now c.loop-i.i (omega arith) c.loop-i.invariant
