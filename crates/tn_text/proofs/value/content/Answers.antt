use Rattle.std.proofs.Common.{◌≡◌, ◌<◌, ◌-◌, ◌+◌, [], ◌∷◌, ◌++◌, length, get_or, take, drop, true, false, arith, rules, ap, subst, sym, ◌∙◌}
use Rattle.def_text.specs.Scan.{unescape}
use Rattle.tn_text.proofs.ContentSteps.{after_one, plain_one, marked}
use Rattle.tn_text.proofs.value.content.Goals as goal
use Rattle.tn_text.proofs.value.content.Goals.{then-escaped+in_ok-push, else-escaped+then-b-eq92, else-escaped+else-b-eq92+in_ok-push-2}

pub loop-b-preserved : goal.loop-b-preserved
loop-b-preserved g c =
    let u = c.args.bytes.now in
    let text = take (length u - 1 - 1) (drop 1 u) in
    let out = c.loop-b.out.items in
    let i = c.loop-b.b-index in
    let below : i < length text = omega arith in
    elim c.if-escaped.branch [
      | then-escaped+in_ok-push w ↦
          let grown : c.if-escaped.out.items ≡ out ++ get_or text i 0 ∷ [] = search rules in
          let esc : c.loop-b.escaped ≡ true = w.if-escaped.true in
          let inv = rw esc at c.loop-b.invariant in
          let e : c.if-escaped.escaped ≡ false = w.escaped-is in
          subst (λ b. c.if-escaped.out.items ++ unescape b (drop (i + 1) text) ≡ unescape false text) (sym e) (after_one text out c.if-escaped.out.items (unescape false text) i below inv grown)
      | else-escaped+then-b-eq92 w ↦
          let same : c.if-escaped.out.items ≡ out = ap (λ v. v.items) w.out-is in
          let esc : c.loop-b.escaped ≡ false = w.if-escaped.false in
          let inv = rw esc at c.loop-b.invariant in
          let e : c.if-escaped.escaped ≡ true = w.escaped-is in
          let is : get_or text i 0 ≡ 92 = w.if-b-eq92.true in
          subst (λ b. c.if-escaped.out.items ++ unescape b (drop (i + 1) text) ≡ unescape false text) (sym e)
          (subst (λ o. o ++ unescape true (drop (i + 1) text) ≡ unescape false text) (sym same) (marked text out (unescape false text) i below inv is))
      | else-escaped+else-b-eq92+in_ok-push-2 w ↦
          let grown : c.if-escaped.out.items ≡ out ++ get_or text i 0 ∷ [] = search rules in
          let esc : c.loop-b.escaped ≡ false = w.if-escaped.false in
          let inv = rw esc at c.loop-b.invariant in
          let e : c.if-escaped.escaped ≡ false = w.escaped-is ∙ esc in
          subst (λ b. c.if-escaped.out.items ++ unescape b (drop (i + 1) text) ≡ unescape false text) (sym e) (plain_one text out c.if-escaped.out.items (unescape false text) i below inv grown w.if-b-eq92.false)
    ]
