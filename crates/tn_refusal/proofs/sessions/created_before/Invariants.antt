use Rattle.std.proofs.Common.{◌≡◌, drop}
use Rattle.def_wording.specs.RuleTexts.{session_passing}
use Rattle.tn_program.specs.Commands.{form_commands}
use Rattle.tn_refusal.specs.RuleViews.{creates_in_role}
use Rattle.tn_refusal.proofs.sessions.created_before.Given as goal

abbrev pub invariant-loop-form : goal.invariant-loop-form
invariant-loop-form g l =
    session_passing (creates_in_role l.fn.role l.fn.name) (form_commands l.fn.forms) ≡ session_passing (creates_in_role l.fn.role l.fn.name) (form_commands (drop l.form-index l.fn.forms))
