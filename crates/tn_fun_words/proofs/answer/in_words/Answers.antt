use Rattle.std.proofs.Common.{◌∙◌, ◌++◌, sym, ap}
use Rattle.tn_term.specs.Views.{alive_of}
use Rattle.tn_flags.specs.Views.{table_of}
use Rattle.tn_fun.specs.Clauses.{fun_clauses_seen}
use Rattle.tn_fun_words.proofs.FunAnswers.{in_words}
use Rattle.tn_fun_words.proofs.answer.in_words.Goals as goal

pub returns : goal.returns
returns g c = λ read x.
    in_words c.args.question.now c.args.fun.now.bytes.now (fun_clauses_seen c.args.fun.now.bytes.now c.args.fun.now.clauses.items) c.args.fun.now.read c.args.terms.now.list c.args.terms.now.caller c.args.terms.now.spec c.deref.result.now c.as_ref.result (alive_of c.first-alive.result) (table_of c.spec_test_flags-flags.result)
    c.new-front.result.items c.put_front.new.out.items c.new-text.result.items c.put_front-2.new.out.items c.after_front.result.now c.extend_from_slice.new.self.items c.args.plain.now
    read.of_list read.of_caller read.of_spec c.deref.ensures.value c.as_ref.ensures.value c.first-alive.ensures c.spec_test_flags-flags.ensures c.new-front.ensures.items c.in_ok-put_front.ensures c.new-text.ensures.items c.in_ok-put_front-2.ensures (λ r e. c.after_front.ensures r (e ∙ ap (λ z. z ++ r) (sym c.deref-2.ensures.value))) c.in_ok-extend_from_slice.ensures.items x
