use Rattle.std.proofs.Common.{◌≡◌, map, drop}
use Rattle.def_wording.specs.RuleTexts.{session_passing}
use Rattle.tn_flags.specs.Views.{command_of}
use Rattle.tn_refusal.specs.RuleViews.{creates_in_role}
use Rattle.tn_refusal.proofs.sessions.created_in.Given as goal

abbrev pub invariant-loop-command : goal.invariant-loop-command
invariant-loop-command g l =
    session_passing (creates_in_role l.fn.role l.fn.name) (map command_of l.fn.commands) ≡ session_passing (creates_in_role l.fn.role l.fn.name) (map command_of (drop l.command-index l.fn.commands))
