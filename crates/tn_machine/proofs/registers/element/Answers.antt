use Rattle.std.proofs.Common.{Some, refl, arith}
use Rattle.tn_guard.specs.Views.{value_seen}
use Rattle.tn_machine.proofs.Elements.{past-element}
use Rattle.tn_machine.proofs.registers.element.Goals as goal

pub returns-else-index-len : goal.returns-else-index-len
returns-else-index-len g c =
    past-element (value_seen c.args.value) (Some c.in_ok-parts.parts) c.in_ok-parts.parts c.args.index c.in_ok-parts.ensures refl
    (omega (arith, c.if-index-len.false, c.len.ensures.counted))
