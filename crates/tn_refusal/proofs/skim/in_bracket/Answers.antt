use Rattle.std.proofs.Common.{◌≡◌, ◌∷◌, ◌+◌, ◌<◌, length, drop, get_or, true, false, ap, sym, ◌∙◌, subst, arith}
use Rattle.std.proofs.lemmas.List.{drop_more, take_rest}
use Rattle.def_text.specs.Tokens.{gap_len}
use Rattle.def_refusal.specs.ItemStarts.{is_opener, in_bracket}
use Rattle.tn_refusal.specs.Skims.{sign_of_byte, role_of_sign, AreAhead}
use Rattle.tn_refusal.proofs.Skims.{after_opener, no_opener, at_end}
use Rattle.tn_refusal.proofs.skim.in_bracket.Goals as goal

pub returns-then-at-text-clause-tokens : goal.returns-then-at-text-clause-tokens
returns-then-at-text-clause-tokens c = λ xs h.
    at_end c.args.text.now c.args.from xs h (let e = c.if-at-text.true in let v = c.next_start-at.ensures.value in omega (arith, e, v))

pub returns-then-is_opener-clause-tokens : goal.returns-then-is_opener-clause-tokens
returns-then-is_opener-clause-tokens c = λ xs h.
    let text = c.args.text.now in
    let at = c.next_start-at.result in
    let is = c.next_start-at.ensures.value in
    let below : at < length text = (let fits = c.next_start-at.ensures.fits in let other = c.if-at-text.false in omega (arith, fits, other)) in
    let there : drop (c.args.from + gap_len false (drop c.args.from text)) text ≡ get_or text at 0 ∷ drop (at + 1) text = ap (λ k. drop k text) (sym is) ∙ drop_more text at 0 below in
    let sign = rw (take_rest text (at + 1)) at c.sign_of_byte.ensures in
    let opens : is_opener (role_of_sign (sign_of_byte (get_or text at 0) (drop (at + 1) text))) ≡ true = sym (ap (λ s. is_opener (role_of_sign s)) sign) ∙ sym c.is_opener.ensures ∙ c.if-is_opener.true in
    subst (λ k. AreAhead text (k + 1) (in_bracket xs)) (sym is) (after_opener text c.args.from (get_or text at 0) (drop (at + 1) text) xs h there opens)

pub returns-else-is_opener-clause-tokens : goal.returns-else-is_opener-clause-tokens
returns-else-is_opener-clause-tokens c = λ xs h.
    let text = c.args.text.now in
    let at = c.next_start-at.result in
    let is = c.next_start-at.ensures.value in
    let below : at < length text = (let fits = c.next_start-at.ensures.fits in let other = c.if-at-text.false in omega (arith, fits, other)) in
    let there : drop (c.args.from + gap_len false (drop c.args.from text)) text ≡ get_or text at 0 ∷ drop (at + 1) text = ap (λ k. drop k text) (sym is) ∙ drop_more text at 0 below in
    let sign = rw (take_rest text (at + 1)) at c.sign_of_byte.ensures in
    let none : is_opener (role_of_sign (sign_of_byte (get_or text at 0) (drop (at + 1) text))) ≡ false = sym (ap (λ s. is_opener (role_of_sign s)) sign) ∙ sym c.is_opener.ensures ∙ c.if-is_opener.false in
    no_opener text c.args.from (get_or text at 0) (drop (at + 1) text) xs h there none
