use Rattle.std.proofs.Common.{◌≡◌, ◌++◌, map, take}
use Rattle.tn_process.proofs.state_part.add_shares.Given as goal

abbrev pub invariant-loop-part : goal.invariant-loop-part
invariant-loop-part g l = map g.P.StatePart.seen l.copies.items ≡ map g.P.StatePart.seen l.fn.copies.items ++ map g.P.StatePart.seen (take l.part-index l.parts)
