use Rattle.std.proofs.Common.{ap, ◌∙◌}
use Rattle.def_script.specs.Rules as rules
use Rattle.def_script.specs.Script.{refusal_line}
use Rattle.tn_refusal.specs.Refusals.{refusal_of}
use Rattle.tn_refusal.proofs.NumberedLines.{line_of_rule}
use Rattle.tn_refusal.proofs.refusal_line.numbered_words.Goals as goal

pub returns-in-Duplicate : goal.returns-in-Duplicate
returns-in-Duplicate c = ap (λ r. refusal_line (refusal_of r)) c.in-Duplicate.is ∙ line_of_rule rules.duplicate c.in-Duplicate.form

pub returns-in-Undeclared : goal.returns-in-Undeclared
returns-in-Undeclared c = ap (λ r. refusal_line (refusal_of r)) c.in-Undeclared.is ∙ line_of_rule rules.undeclared c.in-Undeclared.form

pub returns-in-NotExported : goal.returns-in-NotExported
returns-in-NotExported c = ap (λ r. refusal_line (refusal_of r)) c.in-NotExported.is ∙ line_of_rule rules.not_exported c.in-NotExported.form

pub returns-in-Unbound : goal.returns-in-Unbound
returns-in-Unbound c = ap (λ r. refusal_line (refusal_of r)) c.in-Unbound.is ∙ line_of_rule rules.unbound c.in-Unbound.form

pub returns-in-TracerTaken : goal.returns-in-TracerTaken
returns-in-TracerTaken c = ap (λ r. refusal_line (refusal_of r)) c.in-TracerTaken.is ∙ line_of_rule rules.tracer_taken c.in-TracerTaken.form

pub returns-in-Arity : goal.returns-in-Arity
returns-in-Arity c = ap (λ r. refusal_line (refusal_of r)) c.in-Arity.is ∙ line_of_rule rules.wrong_arity c.in-Arity.form

pub returns-in-Limit : goal.returns-in-Limit
returns-in-Limit c = ap (λ r. refusal_line (refusal_of r)) c.in-Limit.is ∙ line_of_rule rules.past_limit c.in-Limit.form
