use Rattle.std.specs.Option.{option_map}
use Rattle.def_explain.specs.Reasons.{has_value, faults_at}
use Rattle.def_explain.specs.Texts.{condition_reason_text}
use Rattle.tn_guard.specs.Views.{value_seen}
use Rattle.tn_spec.specs.Views.{expr_seen}
use Rattle.tn_verdict.specs.Views.{bound_seen}
use Rattle.tn_fun_words.specs.Views.{clause_words_seen}
use Rattle.tn_fun_words.proofs.BoundNames.{parts_ok}
use Rattle.tn_fun_words.proofs.Reasons.{alone_ok}
use Rattle.tn_fun_words.proofs.reason.put_condition_reason.Goals as goal

pub returns-in-HasValue : goal.returns-in-HasValue
returns-in-HasValue g c =
    let r = has_value (value_seen c.in-HasValue.value) (bound_seen c.in-HasValue.bound) in
    rw c.in-HasValue.is
    (parts_ok c.put_value.result (option_map clause_words_seen c.args.words) c.args.index r c.args.out.now.items c.put_condition_words.new.out.items c.put_value.new.out.items
    c.in_ok-put_condition_words.ensures c.put_value.ensures)

pub returns-in-FaultsAt : goal.returns-in-FaultsAt
returns-in-FaultsAt g c =
    let r = faults_at (expr_seen c.in-FaultsAt.field-0.now) in
    rw c.in-FaultsAt.is
    (parts_ok c.put_fault.result (option_map clause_words_seen c.args.words) c.args.index r c.args.out.now.items c.put_condition_words.new.out.items c.put_fault.new.out.items
    c.in_ok-put_condition_words.ensures
    (alone_ok c.put_fault.result c.put_condition_words.new.out.items (condition_reason_text r) c.put_fault.new.out.items (rw c.in-FaultsAt.is at c.put_fault.ensures)))
