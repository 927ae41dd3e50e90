use Rattle.std.proofs.Common.{◌≡◌, ◌-◌, ◌+◌, length, take, drop, false, ap, ◌∙◌, arith}
use Rattle.def_text.specs.Scan.{unescape}
use Rattle.std.proofs.lemmas.List.{take_more}
use Rattle.tn_text.specs.Values.{inner}
use Rattle.tn_text.proofs.ContentSteps.{plain_one, plain_all}
use Rattle.tn_text.proofs.value.plain_content.Goals as goal

pub loop-b-preserved : goal.loop-b-preserved
loop-b-preserved c =
    let u = c.args.bytes.now in
    let text = take (length u - 1 - 1) (drop 1 u) in
    let i = c.loop-b.b-index in
    plain_one text (take i text) (take (i + 1) text) (unescape false text) i (omega arith) c.loop-b.invariant (take_more text i 0 (omega arith)) c.if-b-eq92.false

pub returns : goal.returns
returns c =
    let u = c.args.bytes.now in
    let text = take (length u - 1 - 1) (drop 1 u) in
    let between : text ≡ inner u = ap (λ n. take n (drop 1 u)) (omega arith) in
    plain_all text c.loop-b.b-index (omega arith) c.loop-b.invariant ∙ ap (unescape false) between
