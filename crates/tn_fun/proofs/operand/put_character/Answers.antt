use Rattle.std.proofs.Common.{Some, refl, ap, ◌∙◌, arith}
use Rattle.def_fun.specs.Reading.{greatest_there}
use Rattle.tn_fun.specs.States.{open_parts_seen}
use Rattle.tn_fun.proofs.SizeSteps.{integer_put}
use Rattle.tn_fun.proofs.TokenKinds.{small_there}
use Rattle.tn_fun.proofs.operand.put_character.Goals as goal

pub returns : goal.returns
returns g c = λ text.
    let fs = open_parts_seen text c.args.parts.items in
    let range = c.ranges.code.fits in
    integer_put g.row.A.Denot text c.args.at c.args.code (greatest_there fs) c.from.result fs (Some c.from.result) refl (ap Some c.from.ensures ∙ small_there c.args.code fs (omega (arith, range)))
