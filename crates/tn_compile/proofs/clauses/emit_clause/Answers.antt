use Rattle.std.proofs.Common.{◌≡◌, ◌+◌, ◌≤◌, ◌∙◌, [], length, refl, ap, sym}
use Rattle.def_spec.specs.Expressions.{in_condition, in_body}
use Rattle.def_machine.specs.Compilation.{registers_taken, variables_after, exprs_code, while_true_code}
use Rattle.def_machine.specs.HeadFolds.{fold_head}
use Rattle.def_machine.specs.ExprFolds.{folded_clause}
use Rattle.tn_code.specs.Views.{instructions_of}
use Rattle.tn_spec.specs.Views.{clause_seen, dialect_of, head_seen}
use Rattle.tn_compile.specs.Heads.{pattern_steps}
use Rattle.tn_compile.specs.Views.{code_left, variables_seen}
use Rattle.tn_compile.proofs.Steps.{left-length}
use Rattle.tn_compile.proofs.ClauseCode.{clause-is}
use Rattle.tn_compile.proofs.FoldedParts.{folded-size}
use Rattle.tn_compile.proofs.Sizes.{room-of-head, room-behind-head, one-longer, as-long}
use Rattle.tn_compile.proofs.clauses.emit_clause.Goals as goal

pub returns-clause-emitted : goal.returns-clause-emitted
returns-clause-emitted g c =
    let k = folded_clause (clause_seen c.args.clause.now) in
    let d = dialect_of c.args.dialect in
    let made : instructions_of c.in_ok-steps.field-0.steps.items ≡ pattern_steps (fold_head (head_seen c.args.clause.now.head)) [] 0 1 = c.in_ok-steps.ensures.steps in
    let known : variables_seen c.in_ok-steps.field-0.variables.items ≡ variables_after (fold_head (head_seen c.args.clause.now.head)) [] 0 1 = c.in_ok-steps.ensures.variables in
    let free : c.in_ok-steps.field-0.free ≡ 1 + registers_taken (fold_head (head_seen c.args.clause.now.head)) = c.in_ok-steps.ensures.free in
    clause-is d k c.len-left.result c.in_ok-steps.field-0.free (variables_seen c.as_slice.result.now) (instructions_of c.in_ok-steps.field-0.steps.items) (code_left c.args.code.now) (code_left c.emit.new.code) (code_left c.emit_exprs.new.code) (code_left c.emit_tests.new.code) (code_left c.put_in_front.new.code) (code_left c.emit-2.new.code)
    (c.len-left.ensures ∙ c.args.code.now.ok.0 ∙ sym (left-length c.args.code.now)) free (ap variables_seen c.as_slice.ensures.value ∙ known) made
    c.in_ok-emit.ensures.emitted
    (c.in_ok-emit_exprs.ensures.emitted ∙ ap (λ es. exprs_code d in_body c.len-left.result (variables_seen c.as_slice.result.now) es c.in_ok-steps.field-0.free (code_left c.emit.new.code)) c.in_ok-values.ensures)
    (c.in_ok-emit_tests.ensures.emitted ∙ ap (λ es. while_true_code d in_condition c.len-left.result (variables_seen c.as_slice.result.now) es c.in_ok-steps.field-0.free c.len-left.result (code_left c.emit_exprs.new.code)) c.in_ok-tests.ensures)
    c.in_ok-put_in_front.ensures.emitted c.in_ok-emit-2.ensures.emitted

pub steps_of_head-requires : goal.steps_of_head-requires
steps_of_head-requires g c = record { room = room-of-head _ _ c.requires.body }

pub emit_exprs-requires : goal.emit_exprs-requires
emit_exprs-requires g c = record {
  room = room-behind-head _ _ _ _ c.in_ok-steps.ensures.free (folded-size _ _ c.in_ok-values.ensures) c.requires.body;
  behind = one-longer _ _ _ (c.len-left.ensures ∙ c.args.code.now.ok.0) c.in_ok-emit.ensures.longer;
}

pub emit_tests-requires : goal.emit_tests-requires
emit_tests-requires g c =
    let behind : c.len-left.result ≤ length c.emit_exprs.new.code.items =
    as-long _ _ _ (one-longer _ _ _ (c.len-left.ensures ∙ c.args.code.now.ok.0) c.in_ok-emit.ensures.longer) c.in_ok-emit_exprs.ensures.longer in
    record { room = room-behind-head _ _ _ _ c.in_ok-steps.ensures.free (folded-size _ _ c.in_ok-tests.ensures) c.requires.conditions; behind = behind; stop = behind }

pub put_in_front-requires : goal.put_in_front-requires
put_in_front-requires g c =
    as-long _ _ _ (as-long _ _ _ (one-longer _ _ _ (c.len-left.ensures ∙ c.args.code.now.ok.0) c.in_ok-emit.ensures.longer) c.in_ok-emit_exprs.ensures.longer) c.in_ok-emit_tests.ensures.longer

pub returns-clause-longer : goal.returns-clause-longer
returns-clause-longer g c =
    as-long _ _ _ (one-longer _ _ _ refl c.in_ok-emit.ensures.longer)
    (as-long _ _ _ c.in_ok-emit_exprs.ensures.longer
    (as-long _ _ _ c.in_ok-emit_tests.ensures.longer (as-long _ _ _ c.in_ok-put_in_front.ensures.longer (one-longer _ _ _ refl c.in_ok-emit-2.ensures.longer))))
