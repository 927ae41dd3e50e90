use Rattle.std.proofs.Common.{◌∙◌, sym, arith}
use Rattle.def_explain.specs.CommandReasons.{any_setting}
use Rattle.tn_index.specs.Views.{function_pattern_seen}
use Rattle.tn_running_node.proofs.FunctionDisables.{one_matches, one_differs, none_left}
use Rattle.tn_running_node.proofs.function_settings.matching_count.Goals as goal
use Rattle.tn_running_node.proofs.function_settings.matching_count.Goals.{then-is_among, else-is_among}

pub loop-function-preserved : goal.loop-function-preserved
loop-function-preserved g c =
    let l = c.loop-function in
    let k = any_setting (function_pattern_seen c.args.covered.now) c.args.local in
    let within = l.invariant.0 in
    let counted = l.invariant.1 in
    elim c.if-is_among.branch [
      | then-is_among w ↦
          let more = one_matches k c.args.functions.now l.function-index c.function-item.result c.loop-function-test.true c.function-item.is (sym w.if-is_among.true ∙ c.is_among.ensures) in
          (omega (arith, w.count-is), omega (arith, w.count-is))
      | else-is_among w ↦
          let same = one_differs k c.args.functions.now l.function-index c.function-item.result c.loop-function-test.true c.function-item.is (sym w.if-is_among.false ∙ c.is_among.ensures) in
          (omega (arith, w.count-is), omega (arith, w.count-is))
    ]

pub returns-clause-counted : goal.returns-clause-counted
returns-clause-counted g c =
    let l = c.loop-function in
    let k = any_setting (function_pattern_seen c.args.covered.now) c.args.local in
    let counted = l.invariant.1 in
    let past = none_left k c.args.functions.now l.function-index c.loop-function-test.false in
    omega arith
