use Rattle.std.proofs.Common.{◌+◌, arith, refl, sym}
use Rattle.def_machine.specs.Acceptance.{sets_before}
use Rattle.tn_code.specs.Views.{instructions_of}
use Rattle.tn_code.proofs.Tests.{some-holds, some-more}
use Rattle.tn_code.proofs.acceptance.is_set_before.Goals as goal

pub returns-then-sets_before : goal.returns-then-sets_before
returns-then-sets_before g c =
    sym (some-holds c.args.reader c.loop-setter.setter (sets_before (instructions_of c.args.items.now) c.args.reader c.args.register) (omega (arith, c.loop-setter-test.true)) (sym c.if-sets_before.ensures))

pub loop-setter-preserved : goal.loop-setter-preserved
loop-setter-preserved g c =
    some-more c.loop-setter.setter (c.loop-setter.setter + 1) (sets_before (instructions_of c.args.items.now) c.args.reader c.args.register) refl c.loop-setter.invariant (sym c.if-sets_before.ensures)
