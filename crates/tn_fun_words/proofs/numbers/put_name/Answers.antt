use Rattle.std.proofs.Common.{◌∙◌, ◌-◌, sym, ap, arith}
use Rattle.def_fun_words.specs.WordTexts.{variable_words}
use Rattle.tn_verdict.proofs.Pieces.{put_ok, read_as}
use Rattle.tn_fun_words.specs.Views.{name_list_seen}
use Rattle.tn_fun_words.proofs.NameLists.{name_there, no_name_0, no_name_past}
use Rattle.tn_fun_words.proofs.numbers.put_name.Goals as goal

pub returns-then-count-eq0 : goal.returns-then-count-eq0
returns-then-count-eq0 g c =
    let n = c.args.number in
    let ns = name_list_seen c.args.names.now.items in
    read_as c.put_variable.result c.args.out.now.items _ _ c.put_variable.new.out.items (sym (ap (λ o. variable_words o n) (no_name_0 ns n (omega (arith, c.from-count.ensures, c.if-count-eq0.true))))) c.put_variable.ensures

pub returns-then-count-len : goal.returns-then-count-len
returns-then-count-len g c =
    let n = c.args.number in
    let vs = c.args.names.now in
    let size = c.len.ensures ∙ vs.ok.0 in
    read_as c.put_variable-then-count-len.result c.args.out.now.items _ _ c.put_variable-then-count-len.new.out.items
    (sym (ap (λ o. variable_words o n) (no_name_past vs.items n (n - 1) (omega (arith, c.from-count.ensures, c.if-count-eq0.false)) (omega (arith, size, c.from-count.ensures, c.if-count-len.true))))) c.put_variable-then-count-len.ensures

pub returns : goal.returns
returns g c =
    let n = c.args.number in
    let vs = c.args.names.now in
    let size = c.len.ensures ∙ vs.ok.0 in
    let done = c.extend_from_slice.result in
    read_as done c.args.out.now.items c.as_slice.result.now _ c.extend_from_slice.new.self.items
    (c.as_slice.ensures.value ∙ sym (ap (λ o. variable_words o n) (name_there vs.items n (c.from-count.result - 1) c.index.result.now (omega (arith, c.from-count.ensures, c.if-count-eq0.false)) (omega (arith, size, c.if-count-len.false, c.if-count-eq0.false)) c.index.ensures)))
    (put_ok done c.args.out.now.items c.as_slice.result.now c.extend_from_slice.new.self.items c.extend_from_slice.ensures.items)
