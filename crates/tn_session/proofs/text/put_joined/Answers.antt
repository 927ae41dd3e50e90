use Rattle.std.proofs.Common.{◌≡◌, ◌∙◌, ◌++◌, ◌∷◌, ◌<◌, ◌≤◌, length, get_or, ap, subst, rules}
use Rattle.tn_text.proofs.Growth.{grows_none, grows_on, on_failed}
use Rattle.def_term.specs.Text.{w}
use Rattle.tn_term.specs.SharedTree.{shared_tree}
use Rattle.tn_session.proofs.Texts.{grows_same, one_there, first_text, next_text, last_text}
use Rattle.tn_session.proofs.text.put_joined.Goals as goal

pub returns-then-is_empty-clause-grows : goal.returns-then-is_empty-clause-grows
returns-then-is_empty-clause-grows g c = grows_none c.args.out.now.items

pub returns-in_err-write_term-clause-ok : goal.returns-in_err-write_term-clause-ok
returns-in_err-write_term-clause-ok g c = on_failed c.from_residual.result _ _ c.from_residual.ensures.1

pub returns-in_err-write_term-clause-grows : goal.returns-in_err-write_term-clause-grows
returns-in_err-write_term-clause-grows g c = grows_same c.in_err-write_term.ensures.err

pub loop-i-init : goal.loop-i-init
loop-i-init g c =
    let items = c.args.args.now.items in
    let size = c.args.args.now.ok.0 in
    let x = c.index.result.now in
    let some : 0 < length items = one_there c.args.args.now c.if-is_empty.ensures size in
    let is : x ≡ get_or items 0 x = search rules in
    record { written = first_text shared_tree items x c.args.out.now.items c.write_term.new.out.items some is (c.in_ok-write_term.ensures.ok ∙ ap (λ t. c.args.out.now.items ++ w t) c.term.ensures); grows = record { added = _; whole = c.in_ok-write_term.ensures.ok } }

pub returns-in_err-put_more-clause-ok : goal.returns-in_err-put_more-clause-ok
returns-in_err-put_more-clause-ok g c = on_failed c.from_residual-in_err-put_more.result _ _ c.from_residual-in_err-put_more.ensures.1

pub returns-in_err-put_more-clause-grows : goal.returns-in_err-put_more-clause-grows
returns-in_err-put_more-clause-grows g c = grows_on c.loop-i.invariant.grows c.put_more.ensures.grows

pub loop-i-preserved : goal.loop-i-preserved
loop-i-preserved g c =
    let items = c.args.args.now.items in
    let i = c.loop-i.i in
    let x = c.index-in-loop-i.result.now in
    let below : i < length items = subst (λ n. i < n) (c.len-i-end.ensures ∙ c.args.args.now.ok.0) c.loop-i-test.true in
    let is : x ≡ get_or items i x = search rules in
    record {
      written = next_text shared_tree items i x c.loop-i.out.items c.put_more.new.out.items _ below is c.loop-i.invariant.written (c.in_ok-put_more.ensures.ok ∙ ap (λ t. c.loop-i.out.items ++ 44 ∷ w t) c.term-in-loop-i.ensures);
      grows = grows_on c.loop-i.invariant.grows c.put_more.ensures.grows;
    }

pub returns-clause-ok : goal.returns-clause-ok
returns-clause-ok g c =
    let items = c.args.args.now.items in
    let i = c.loop-i.i in
    let over : length items ≤ i = subst (λ n. n ≤ i) (c.len-i-end.ensures ∙ c.args.args.now.ok.0) c.loop-i-test.false in
    last_text shared_tree items i c.loop-i.out.items _ over c.loop-i.invariant.written

pub returns-clause-grows : goal.returns-clause-grows
returns-clause-grows g c = c.loop-i.invariant.grows
