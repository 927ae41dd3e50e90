use Rattle.std.proofs.Common.{arith, rules}
use Rattle.tn_live.proofs.Journals.{handed_more}
use Rattle.tn_live.proofs.seat.first_missing.Goals as goal

pub loop-number-preserved : goal.loop-number-preserved
loop-number-preserved g c = handed_more c.args.seats.now c.loop-number.number c.loop-number.invariant (c.has_seat.ensures.has (search rules))

pub returns-clause-none : goal.returns-clause-none
returns-clause-none g c = λ n below. c.loop-number.invariant n (omega arith)
