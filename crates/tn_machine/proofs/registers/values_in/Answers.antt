use Rattle.std.proofs.Common.{[], ◌∷◌, ap, ◌∙◌, map, arith}
use Rattle.std.proofs.lemmas.List.{map-append}
use Rattle.tn_guard.specs.Views.{value_seen}
use Rattle.tn_machine.specs.Views.{registers_seen}
use Rattle.tn_machine.proofs.Moves.{terms-more, terms-last}
use Rattle.tn_machine.proofs.registers.values_in.Goals as goal

pub loop-register-preserved : goal.loop-register-preserved
loop-register-preserved g c =
    terms-more (registers_seen c.args.registers.now) c.args.from.now c.loop-register.register-index (map value_seen c.loop-register.values.items) _ (value_seen c.value_in.result) _
    (omega (arith, c.loop-register-test.true)) c.value_in.ensures
    (ap (map value_seen) c.in_ok-push.ensures.ok ∙ map-append value_seen c.loop-register.values.items (c.value_in.result ∷ [])) c.loop-register.invariant

pub returns : goal.returns
returns g c =
    terms-last (registers_seen c.args.registers.now) c.args.from.now c.loop-register.register-index (map value_seen c.loop-register.values.items) _
    (omega (arith, c.loop-register-test.false)) c.loop-register.invariant
