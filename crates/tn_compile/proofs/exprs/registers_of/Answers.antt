use Rattle.std.proofs.Common.{◌≡◌, ◌+◌, ◌++◌, ◌∷◌, [], arith, drop, ap, ◌∙◌, rules}
use Rattle.def_machine.specs.Compilation.{registers_of}
use Rattle.tn_spec.specs.Views.{expr_seen, exprs_seen}
use Rattle.tn_compile.specs.Views.{variables_seen}
use Rattle.tn_compile.proofs.Steps.{exprs_here, exprs-length, registers-more}
use Rattle.tn_compile.proofs.exprs.registers_of.Goals as goal

pub overflow_add-free : goal.overflow_add-free
overflow_add-free g c = omega (arith, c.requires.room, exprs-length c.args.exprs.now, c.loop-i-test.true)

pub loop-i-preserved : goal.loop-i-preserved
loop-i-preserved g c =
    let v = variables_seen c.args.variables.now in
    let rest = exprs_seen (drop (c.loop-i.i + 1) c.args.exprs.now) in
    let pushed : c.push.new.self.items ≡ c.loop-i.registers.items ++ c.register_of.result ∷ [] = search rules in
    ap (λ xs. xs ++ registers_of v rest (c.args.free + (c.loop-i.i + 1))) pushed
    ∙ registers-more v c.loop-i.registers.items _ _ rest (expr_seen c.index-exprs-i.result) c.args.free c.loop-i.i c.register_of.result
    (exprs_here c.args.exprs.now c.loop-i.i c.index-exprs-i.result (omega (arith, c.loop-i-test.true)) c.index-exprs-i.is) c.register_of.ensures c.loop-i.invariant
