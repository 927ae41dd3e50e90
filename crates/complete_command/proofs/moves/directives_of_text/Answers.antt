use Rattle.std.proofs.Common.{sym, subst}
use Rattle.tn_program.specs.Views.{program_of}
use Rattle.tn_moves.specs.Readings.{AreDirectives}
use Rattle.complete_command.proofs.SameMoves.{one_reading}
use Rattle.complete_command.proofs.moves.directives_of_text.Goals as goal

pub returns : goal.returns
returns g c =
    let text = c.args.text.now in
    one_reading (program_of c.args.first.now) text c.directives_of_text.result c.directives_of_text-2.result c.directives_of_text.ensures
    (subst (λ p. AreDirectives p text c.directives_of_text-2.result) (sym c.requires) c.directives_of_text-2.ensures)
