use Rattle.std.proofs.Common.{◌≡◌, ◌∙◌, [], ◌∷◌, ◌++◌, codes, decimal, sym, ap, arith}
use Rattle.tn_verdict.proofs.Digits.{variable_text}
use Rattle.tn_verdict.proofs.Pieces.{behind}
use Rattle.tn_fun_words.proofs.numbers.put_variable.Goals as goal

pub returns : goal.returns
returns g c =
    let n = c.args.number in
    let o = c.args.out.now.items in
    let first = c.extend_from_slice.new.self.items in
    let next = c.write_decimal.new.out.items in
    let last = c.push.new.self.items in
    let made : next ≡ first ++ decimal n = c.in_ok-write_decimal.ensures.ok in
    behind o (codes "'$") (decimal n ++ 39 ∷ []) first last c.in_ok-extend_from_slice.ensures.items
    (behind first (decimal n) (39 ∷ []) next last made c.in_ok-push.ensures.items)
    ∙ ap (λ l. o ++ l) (sym (variable_text n (omega (arith, c.ranges.number.fits))))
