use Rattle.std.proofs.Common.{sym, ◌∙◌, arith}
use Rattle.def_term.specs.Names.{Mfa}
use Rattle.tn_script.specs.Views.{function_of}
use Rattle.tn_process.proofs.Lookup.{number_here, number_true, number_false}
use Rattle.tn_process.proofs.function.find_function.Goals as goal

pub returns-then-is_named-clause-number : goal.returns-then-is_named-clause-number
returns-then-is_named-clause-number g c =
    let f : Mfa = record { module_name = c.args.module_name.now; function_name = c.args.name.now; arity = c.args.arity } in
    let here = number_here function_of c.args.functions.now f c.loop-i.i c.index-functions-i.result (omega arith) c.index-functions-i.is in
    number_true _ _ _ _ (sym c.loop-i.invariant ∙ here) (sym c.is_named.ensures ∙ c.if-is_named.true)

pub loop-i-preserved : goal.loop-i-preserved
loop-i-preserved g c =
    let f : Mfa = record { module_name = c.args.module_name.now; function_name = c.args.name.now; arity = c.args.arity } in
    let here = number_here function_of c.args.functions.now f c.loop-i.i c.index-functions-i.result (omega arith) c.index-functions-i.is in
    number_false _ _ _ _ (sym c.loop-i.invariant ∙ here) (sym c.is_named.ensures ∙ c.if-is_named.false)
