-- Numbers within a limit.
use Rattle.std.proofs.Common.{◌≡◌, ℕ, ◌+◌, ◌-◌, ◌*◌, ◌<◌, ◌≤◌, List, [], ◌∷◌, length, get_or, drop, true, false, nat_le, Option, Some, None, Ok, Err, refl, ap, sym, ◌∙◌, arith, if◌then◌else◌}
use Rattle.std.proofs.lemmas.Bool.Decides.{nat_tests}
use Rattle.std.proofs.lemmas.List.{drop_more}
use Rattle.def_term.specs.Text.{number_after}
use Rattle.def_text.specs.Tokens.{number}
use Rattle.def_text.specs.Faults.{too_large}
use Rattle.def_fun.specs.Trees as tree
use Rattle.def_fun.specs.Reading.{OpenPart, has}
use Rattle.tn_fun.specs.Sizes.{if_at_most}
use Rattle.tn_fun.specs.Trees.{fun_expr_seen}
use Rattle.tn_fun.specs.States.{are_strings}
use Rattle.tn_fun.specs.declared.tree.Expr.{Integer}
use Rattle.tn_fun.proofs.TreeViews.{seen_integer}

number_grows : (n : ℕ) (ds : List ℕ) → n ≤ number_after n ds
number_grows n [] = omega arith
number_grows n (d ∷ ds) = omega (arith, number_grows (n * 10 + (d - 48)) ds)

more_than : (n most : ℕ) → most < n → nat_le n most ≡ false
more_than n most h = grind (arith, nat_tests)

pub past_most : (most n : ℕ) → most < n → None ≡ if_at_most most n
past_most most n h = sym (ap (λ b. if b then Some n else None) (more_than n most h))

-- one more digit, with which it is more
pub past_digit : (most v k : ℕ) (ds : List ℕ) → k < length ds → number_after v (drop k ds) ≡ number ds → most < v * 10 + (get_or ds k 0 - 48) → None ≡ if_at_most most (number ds)
past_digit most v k ds below same more =
    let d = get_or ds k 0 in
    let step : number_after v (drop k ds) ≡ number_after (v * 10 + (d - 48)) (drop (k + 1) ds) = ap (number_after v) (drop_more ds k 0 below) in
    past_most most (number ds) (omega (arith, more, step, same, number_grows (v * 10 + (d - 48)) (drop (k + 1) ds)))

some_by : (n most m : ℕ) (b : _) → nat_le n most ≡ b → (if b then Some n else None) ≡ Some m → (nat_le n most ≡ true) × (n ≡ m)
some_by n most m true is e = (is, let same : Some n ≡ Some m = e in cc)
some_by n most m false is e = absurd (let none : None ≡ Some m = e in cc)

-- an integer that is found within the limit
pub integer_put : (A : Type 0) (text : List ℕ) (at n most m : ℕ) (fs : List OpenPart) (value : Option ℕ) → value ≡ Some m → value ≡ if_at_most most n
    → ((if nat_le n most then Ok (has (tree.whole at n) fs) else Err too_large) ≡ Ok (has (fun_expr_seen {A = A} text (Integer at m)) fs)) × (are_strings (fun_expr_seen {A = A} text (Integer at m)) ≡ false)
integer_put A text at n most m fs value is e =
    let p = some_by n most m (nat_le n most) refl (sym e ∙ is) in (
      ap (λ b. if b then Ok (has (tree.whole at n) fs) else Err too_large) p.0
          ∙ ap (λ k. Ok (has (tree.whole at k) fs)) p.1
          ∙ ap (λ x. Ok (has x fs)) (sym (seen_integer A text at m)),
      ap are_strings (seen_integer A text at m),
    )
