use Rattle.std.proofs.Common.{◌∙◌, max, sym, ap, arith}
use Rattle.tn_fun.specs.Trees.{fun_row_seen}
use Rattle.tn_fun_words.proofs.ClauseLists.{words_later, words_here, words_over}
use Rattle.tn_fun_words.proofs.fun_words.FunWords.clause_words.Goals as goal

pub returns-in-Some : goal.returns-in-Some
returns-in-Some g c =
    let text = c.args.self.now.bytes.now in
    let ks = c.args.self.now.clauses in
    let size = c.len-i-end.ensures ∙ ks.ok.0 in
    words_here text ks.items c.loop-i.i c.index-clause.result.now c.loop-i.before (fun_row_seen text c.in-Some.conditions.now) _ (omega (arith, size)) c.index-clause.ensures (c.in-Some.ensures text) c.loop-i.invariant

pub loop-i-preserved : goal.loop-i-preserved
loop-i-preserved g c =
    let text = c.args.self.now.bytes.now in
    let ks = c.args.self.now.clauses in
    let size = c.len-i-end.ensures ∙ ks.ok.0 in
    let guards = c.index-clause.result.now.guards in
    words_later text ks.items c.loop-i.i c.index-clause.result.now c.loop-i.before _ c.clause_count.result _ (omega (arith, size)) c.index-clause.ensures (sym (c.in-None.ensures text)) (c.clause_count.ensures ∙ ap (max 1) (c.len.ensures ∙ guards.ok.0)) (omega (arith, c.saturating_sub-before.ensures)) c.loop-i.invariant

pub returns : goal.returns
returns g c =
    let ks = c.args.self.now.clauses in
    let size = c.len-i-end.ensures ∙ ks.ok.0 in
    words_over c.args.self.now.bytes.now ks.items c.loop-i.i c.loop-i.before _ (omega (arith, size)) c.loop-i.invariant
