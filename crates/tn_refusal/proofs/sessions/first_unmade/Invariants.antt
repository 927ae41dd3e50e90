use Rattle.def_wording.specs.RuleTexts.{unmade_session}
use Rattle.tn_flags.specs.Views.{command_of}
use Rattle.tn_program.specs.Commands.{form_commands}
use Rattle.tn_refusal.proofs.Firsts.{FirstSo}
use Rattle.tn_refusal.proofs.sessions.first_unmade.Given as goal

abbrev pub invariant-loop-i : goal.invariant-loop-i
invariant-loop-i g l = FirstSo unmade_session command_of (form_commands l.fn.earlier) l.fn.commands l.i
