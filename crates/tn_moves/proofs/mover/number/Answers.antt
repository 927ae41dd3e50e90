use Rattle.tn_moves.proofs.Numbers.{number_read, no_number}
use Rattle.std.proofs.Common.{Err, ap, subst}
use Rattle.tn_moves.specs.Readings.{IsOnly}
use Rattle.tn_moves.proofs.mover.number.Goals as goal

pub returns-in-Ok : goal.returns-in-Ok
returns-in-Ok g c =
    number_read c.args.text.now c.in-Ok.picks.items c.only.result c.in-Ok.ensures.picks c.in-Ok.ensures.alone (subst (λ l. IsOnly l c.only.result) c.deref.ensures.value c.only.ensures)

pub returns-in-Err-BadPicks : goal.returns-in-Err-BadPicks
returns-in-Err-BadPicks g c = no_number c.args.text.now (c.in-Err-BadPicks.ensures.bad (ap Err c.in-Err-BadPicks.field-0-is))
