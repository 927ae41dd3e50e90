use Rattle.tn_flags.specs.Views.{command_of}
use Rattle.tn_program.specs.Commands.{form_commands}
use Rattle.tn_refusal.specs.RuleViews.{holder_in_role}
use Rattle.tn_refusal.proofs.Firsts.{FirstSo}
use Rattle.tn_refusal.proofs.sessions.first_taken.Given as goal

abbrev pub invariant-loop-i : goal.invariant-loop-i
invariant-loop-i g l = FirstSo (holder_in_role l.fn.role) command_of (form_commands l.fn.earlier) l.fn.commands l.i
