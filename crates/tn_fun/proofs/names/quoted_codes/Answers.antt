use Rattle.std.proofs.Common.{◌≡◌, ◌<◌, ◌-◌, ◌+◌, ◌==◌, [], ◌∷◌, ◌++◌, length, get_or, take, drop, true, false, arith, rules, ap, subst, sym, ◌∙◌, ne_eqb, eq-eqb}
use Rattle.def_fun.specs.Tokens.{is_plain_in, is_escape, escape_code}
use Rattle.def_fun.specs.Scan.{in_quotes_at}
use Rattle.tn_fun.specs.Tokens.{codes_of_quoted}
use Rattle.tn_fun.specs.Sizes.{codes_onto}
use Rattle.tn_fun.proofs.CodesSteps.{after_escape, after_backslash, after_plain}
use Rattle.tn_fun.proofs.names.quoted_codes.Goals as goal
use Rattle.tn_fun.proofs.names.quoted_codes.Goals.{then-escaped+else-not-is_escaped+in_ok-push, else-escaped+else-b-quote+then-b-eq92, else-escaped+else-b-quote+else-b-eq92+then-is_plain+in_ok-push-2}

pub loop-b-preserved : goal.loop-b-preserved
loop-b-preserved g c =
    let u = c.args.bytes.now in
    let q = c.args.quote in
    let text = take (length u - 1) (drop 1 u) in
    let codes = c.loop-b.codes.items in
    let i = c.loop-b.b-index in
    let all = codes_of_quoted (in_quotes_at q false text) in
    let below : i < length text = omega arith in
    elim c.if-escaped.branch [
      | then-escaped+else-not-is_escaped+in_ok-push w ↦
          let grown : c.if-escaped.codes.items ≡ codes ++ escape_code (get_or text i 0) ∷ [] = search rules in
          let esc : c.loop-b.escaped ≡ true = w.if-escaped.true in
          let e : c.if-escaped.escaped ≡ false = w.escaped-is in
          let is : is_escape (get_or text i 0) ≡ true = search rules in
          subst (λ b. codes_onto c.if-escaped.codes.items (in_quotes_at q b (drop (i + 1) text)) ≡ all) (sym e)
          (subst (λ o. codes_onto o (in_quotes_at q false (drop (i + 1) text)) ≡ all) (sym grown) (after_escape q text codes all i below is (rw esc at c.loop-b.invariant)))
      | else-escaped+else-b-quote+then-b-eq92 w ↦
          let same : c.if-escaped.codes.items ≡ codes = ap (λ v. v.items) w.codes-is in
          let esc : c.loop-b.escaped ≡ false = w.if-escaped.false in
          let e : c.if-escaped.escaped ≡ true = w.escaped-is in
          let quote : (get_or text i 0 == q) ≡ false = ne_eqb (get_or text i 0) q w.if-b-quote.false in
          let backslash : (get_or text i 0 == 92) ≡ true = eq-eqb (get_or text i 0) 92 w.if-b-eq92.true in
          subst (λ b. codes_onto c.if-escaped.codes.items (in_quotes_at q b (drop (i + 1) text)) ≡ all) (sym e)
          (subst (λ o. codes_onto o (in_quotes_at q true (drop (i + 1) text)) ≡ all) (sym same) (after_backslash q text codes all i below quote backslash (rw esc at c.loop-b.invariant)))
      | else-escaped+else-b-quote+else-b-eq92+then-is_plain+in_ok-push-2 w ↦
          let grown : c.if-escaped.codes.items ≡ codes ++ get_or text i 0 ∷ [] = search rules in
          let esc : c.loop-b.escaped ≡ false = w.if-escaped.false in
          let e : c.if-escaped.escaped ≡ false = w.escaped-is ∙ esc in
          let quote : (get_or text i 0 == q) ≡ false = ne_eqb (get_or text i 0) q w.if-b-quote.false in
          let backslash : (get_or text i 0 == 92) ≡ false = ne_eqb (get_or text i 0) 92 w.if-b-eq92.false in
          let is : is_plain_in q (get_or text i 0) ≡ true = search rules in
          subst (λ b. codes_onto c.if-escaped.codes.items (in_quotes_at q b (drop (i + 1) text)) ≡ all) (sym e)
          (subst (λ o. codes_onto o (in_quotes_at q false (drop (i + 1) text)) ≡ all) (sym grown) (after_plain q text codes all i below quote backslash is (rw esc at c.loop-b.invariant)))
    ]
