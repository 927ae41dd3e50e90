-- A term as the atom of a text.
use Rattle.std.proofs.Common.{◌≡◌, ◌∙◌, ℕ, List, Bool, sym, ap}
use Rattle.std.specs.Str.{bytes_eq}
use Rattle.std.proofs.lemmas.Map.Text.{is_eq-slice_cmp}
use Rattle.def_term.specs.Tree.{Tree, atom}
use Rattle.def_term.specs.Order.{same}

pub word_test : (a b c : List ℕ) (t : Tree) (r : Bool) → t ≡ atom a → c ≡ a → r ≡ bytes_eq c b → r ≡ same t (atom b)
word_test a b c t r e s h = h ∙ ap (λ x. bytes_eq x b) s ∙ sym (is_eq-slice_cmp a b) ∙ ap (λ u. same u (atom b)) (sym e)

pub same-atoms : (a b : List ℕ) → same (atom a) (atom b) ≡ bytes_eq a b
same-atoms a b = is_eq-slice_cmp a b
