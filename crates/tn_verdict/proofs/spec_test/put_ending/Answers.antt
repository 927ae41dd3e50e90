use Rattle.std.proofs.Common.{◌≡◌, ◌∙◌, ◌++◌, if◌then◌else◌, Bool, false, List, ℕ, codes, sym, ap}
use Rattle.def_term.specs.Text.{w}
use Rattle.def_explain.specs.Texts.{ending_text}
use Rattle.tn_guard.specs.Views.{value_seen}
use Rattle.tn_difference.specs.Effects.{message_term}
use Rattle.tn_verdict.proofs.Pieces.{behind}
use Rattle.tn_verdict.proofs.spec_test.put_ending.Goals as goal

by_tests : (a b : Bool) (x y z : List ℕ) → a ≡ false → b ≡ false → z ≡ (if a then x else if b then y else z)
by_tests a b x y z p q = sym (ap (λ v. if v then x else if b then y else z) p ∙ ap (λ v. if v then y else z) q)

pub returns-clause-ok : goal.returns-clause-ok
returns-clause-ok g c =
    let t = value_seen c.in-Some.value in
    behind c.args.out.now.items (codes "a message that ends in ") (w t) c.extend_from_slice-2.new.self.items c.write_value.new.out.items c.in_ok-extend_from_slice.ensures.items c.in_ok-write_value.ensures.ok
    ∙ ap (λ l. c.args.out.now.items ++ l) (by_tests _ _ (codes "a message") (codes "no message: it is false") (codes "a message that ends in " ++ w t) (sym c.is_word.ensures ∙ c.if-is_word.false) (sym c.is_word-2.ensures ∙ c.if-is_word-2.false))
    ∙ ap (λ o. c.args.out.now.items ++ ending_text (message_term o)) (sym c.in-Some.is)
