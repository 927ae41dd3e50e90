use Rattle.std.proofs.Common.{◌∙◌, length, sym, ap, rules}
use Rattle.tn_flags.specs.Views.{command_of}
use Rattle.tn_program.proofs.CreatedSessions.{first_made, none_made}
use Rattle.tn_program.proofs.creations.SessionsIterator.next.Goals as goal

pub returns-in-Some-creation-clause-steps : goal.returns-in-Some-creation-clause-steps
returns-in-Some-creation-clause-steps g c =
    sym c.loop-command.invariant
    ∙ first_made (command_of {A = g.row.A.Denot}) _ c.in-Some.command.now c.in-Some.others.now _ c.in-Some.ensures.cases.0 (sym c.in-Some-creation.ensures)

pub returns-in-Some-creation-clause-goes : goal.returns-in-Some-creation-clause-goes
returns-in-Some-creation-clause-goes g c =
    let fewer = ap length (sym c.loop-command.invariant
    ∙ first_made (command_of {A = g.row.A.Denot}) _ c.in-Some.command.now c.in-Some.others.now _ c.in-Some.ensures.cases.0 (sym c.in-Some-creation.ensures)) in
    search rules

pub loop-command-preserved : goal.loop-command-preserved
loop-command-preserved g c =
    sym (none_made (command_of {A = g.row.A.Denot}) _ c.in-Some.command.now c.in-Some.others.now c.in-Some.ensures.cases.0 (sym c.in_default-creation.ensures)) ∙ c.loop-command.invariant
