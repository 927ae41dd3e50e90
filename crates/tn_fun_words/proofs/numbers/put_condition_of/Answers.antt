use Rattle.std.proofs.Common.{◌++◌, ◌<◌, length, codes, sym, ap, arith}
use Rattle.def_fun_words.specs.Words.{condition_text}
use Rattle.def_fun_words.specs.WordTexts.{condition_words}
use Rattle.tn_verdict.proofs.Pieces.{after_ok, read_as}
use Rattle.tn_fun.specs.Trees.{fun_expr_seen}
use Rattle.tn_fun_words.specs.Views.{condition_texts}
use Rattle.tn_fun_words.proofs.ClauseLists.{condition_there}
use Rattle.tn_fun_words.proofs.numbers.put_condition_of.Goals as goal

pub returns : goal.returns
returns g c =
    let text = c.args.fun.now.bytes.now in
    let es = c.args.conditions.now in
    let e = c.index-conditions-before.result in
    let done = c.put_condition.result in
    let below : c.args.before < length es = omega (arith, c.if-before-conditions.false) in
    read_as done c.args.out.now.items (codes "guard " ++ condition_text text (fun_expr_seen text e)) (condition_words (Rattle.std.specs.Prelude.slice_get (condition_texts text es) c.args.before) c.args.before) c.put_condition.new.out.items
    (sym (ap (λ o. condition_words o c.args.before) (condition_there text es c.args.before e below c.index-conditions-before.is)))
    (after_ok done c.args.out.now.items (codes "guard ") (condition_text text (fun_expr_seen text e)) c.extend_from_slice.new.self.items c.put_condition.new.out.items c.in_ok-extend_from_slice.ensures.items c.put_condition.ensures)
