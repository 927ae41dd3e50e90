use Rattle.std.proofs.Common.{◌∙◌, sym, ap, arith}
use Rattle.std.proofs.lemmas.Result.{IfOk-weaker}
use Rattle.std.specs.Option.{option_map}
use Rattle.def_spec.specs.Expressions.{for_calls}
use Rattle.def_explain.specs.CommandReasons.{spec_trap}
use Rattle.tn_term.specs.Views.{tree_of}
use Rattle.tn_index.specs.Views.{function_pattern_seen}
use Rattle.tn_command_reason.specs.HeldTraps.{spec_traps_seen}
use Rattle.tn_command_reason.proofs.FunctionTraps.{function_has}
use Rattle.tn_command_reason.proofs.trap_reasons.function_trap.Goals as goal

pub returns : goal.returns
returns g c =
    let spec = tree_of c.args.specification.now in
    let lengths = c.in_ok-arities.arities.items in
    IfOk-weaker c.spec_trap.result _ _
    (λ t is. function_has c.args.functions.now (tree_of c.args.mfa.now) spec (tree_of c.args.options.now) c.in-Some.covered c.in-Some-options_of.local c.len.result lengths (spec_traps_seen t)
    (sym (ap (option_map function_pattern_seen) c.in-Some.is) ∙ c.in_ok-covered.ensures)
    (sym c.in-Some-options_of.is ∙ c.options_of.ensures)
    c.in_ok-arities.ensures (omega (arith, c.in_ok-arities.arities.ok.0, c.len.ensures))
    (is ∙ ap (λ ns. spec_trap c.len.result for_calls ns spec) c.deref.ensures.value))
    c.spec_trap.ensures
