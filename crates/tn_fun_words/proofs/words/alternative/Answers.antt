use Rattle.std.proofs.Common.{◌∙◌, ◌<◌, length, Some, sym, ap, arith}
use Rattle.tn_fun.specs.Trees.{fun_row_seen}
use Rattle.tn_fun_words.proofs.ClauseLists.{guard_there}
use Rattle.tn_fun_words.proofs.words.alternative.Goals as goal

pub returns : goal.returns
returns g c = λ text.
    let gs = c.args.guards.now in
    let size = c.len.ensures ∙ gs.ok.0 in
    let below : c.args.index < length gs.items = omega (arith, size, c.if-index-len.false) in
    ap (λ es. Some (fun_row_seen text es)) c.as_slice.ensures.value ∙ sym (guard_there text gs.items c.args.index c.index.result.now below c.index.ensures)
