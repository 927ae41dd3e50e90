use Rattle.std.proofs.Common.{◌∙◌, ◌+◌, ◌++◌, map, sym, ap, arith}
use Rattle.std.specs.List.{filter}
use Rattle.def_session.specs.Settings.{has_among}
use Rattle.def_explain.specs.CommandReasons.{any_setting}
use Rattle.tn_index.specs.Views.{function_pattern_seen}
use Rattle.tn_command_reason.specs.FunctionTraps.{arities_from}
use Rattle.tn_command_reason.proofs.FunctionTraps.{one_more, one_less, none_more}
use Rattle.tn_command_reason.proofs.trap_reasons.matching_arities.Goals as goal
use Rattle.tn_command_reason.proofs.trap_reasons.matching_arities.Goals.{then-is_among+in_ok-push, else-is_among}

pub loop-function-preserved : goal.loop-function-preserved
loop-function-preserved g c =
    let l = c.loop-function in
    let fs = c.args.functions.now in
    let k = any_setting (function_pattern_seen c.args.covered.now) c.args.local in
    let whole = arities_from k fs 0 in
    elim c.if-is_among.branch [
      | then-is_among+in_ok-push w ↦
          one_more k fs l.function-index c.function-item.result c.loop-function-test.true c.function-item.is l.arities.items c.if-is_among.arities.items whole w.len.result
          (sym w.if-is_among.true ∙ c.is_among.ensures) (ap (λ v. v.items) w.arities-is ∙ w.in_ok-push.ensures.items)
          (omega (arith, c.function-item.result.params.ok.0, w.len.ensures)) l.invariant
      | else-is_among w ↦
          ap (λ v. v.items ++ arities_from k fs (l.function-index + 1)) w.arities-is
          ∙ one_less k fs l.function-index c.function-item.result c.loop-function-test.true c.function-item.is l.arities.items whole (sym w.if-is_among.false ∙ c.is_among.ensures) l.invariant
    ]

pub returns : goal.returns
returns g c = λ o fs.
    let l = c.loop-function in
    let k = any_setting (function_pattern_seen c.args.covered.now) c.args.local in
    none_more k c.args.functions.now l.function-index l.arities.items (arities_from k c.args.functions.now 0) (omega (arith, c.loop-function-test.false)) l.invariant
    ∙ ap (λ ks. map (λ f. f.0.arity) (filter (λ f. has_among k f.0 f.1) ks)) (sym fs)
