use Rattle.tn_term.specs.Views.{alive_of}
use Rattle.tn_flags.specs.Views.{table_of}
use Rattle.tn_verdict.proofs.Answers.{answered}
use Rattle.tn_verdict.proofs.spec_test_input.answer.Goals as goal

pub returns-in-Ok : goal.returns-in-Ok
returns-in-Ok g c =
    answered c.args.question.now c.in_ok-terms.terms.list c.in_ok-terms.terms.caller c.in_ok-terms.terms.spec c.deref.result.now c.as_ref.result (alive_of c.first-alive.result) (table_of c.spec_test_flags-flags.result) c.new-text.result.items c.put_spec_test.new.out.items
    c.in_ok-terms.ensures.of_list c.in_ok-terms.ensures.of_caller c.in_ok-terms.ensures.of_spec c.deref.ensures.value c.as_ref.ensures.value c.first-alive.ensures c.spec_test_flags-flags.ensures c.new-text.ensures.items c.in-Ok.ensures.ok
