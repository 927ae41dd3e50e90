-- The elements of a trace message.
use Rattle.std.proofs.Common.{◌≡◌, ◌∙◌, ◌<◌, ◌≤◌, false, ◌&&◌, List, [], ◌∷◌, length, get_or, refl, ap, arith}
use Rattle.std.specs.Option.{is_some}
use Rattle.def_term.specs.Tree.{Tree, int, atom, pid, tuple, list, Trees, none, more, pid_in}
use Rattle.def_term.specs.Names.{word}
use Rattle.def_term.specs.Order.{same}
use Rattle.def_trace_text.specs.Messages.{is_trace_message}
use Rattle.tn_term.specs.declared.term.Term.{Term}
use Rattle.tn_term.specs.Views.{tree_of, trees_of}

two_elements : (t u : Tree) → is_trace_message (tuple (more t (more u none))) ≡ false
two_elements t (int n) = refl
two_elements t (atom s) = refl
two_elements t (pid n) = refl
two_elements t (tuple us) = refl
two_elements t (list us) = refl

pub few_elements : {A : Type 0} (ts : List (Term A)) → length ts < 3 → is_trace_message (tuple (trees_of ts)) ≡ false
few_elements [] h = refl
few_elements (t ∷ []) h = refl
few_elements (t ∷ u ∷ []) h = two_elements (tree_of t) (tree_of u)
few_elements (t ∷ u ∷ v ∷ ts) h = absurd (omega (arith, h))

three_elements : (t u v : Tree) (us : Trees) → is_some (pid_in u) && same t (word "trace") ≡ is_trace_message (tuple (more t (more u (more v us))))
three_elements t (int n) v us = refl
three_elements t (atom s) v us = refl
three_elements t (pid n) v us = refl
three_elements t (tuple ts) v us = refl
three_elements t (list ts) v us = refl

pub elements_tell :
    {A : Type 0} (ts : List (Term A)) (x y : Term A) → 3 ≤ length ts → x ≡ get_or ts 0 x → y ≡ get_or ts 1 y
    → is_some (pid_in (tree_of y)) && same (tree_of x) (word "trace") ≡ is_trace_message (tuple (trees_of ts))
elements_tell [] x y h a b = absurd (omega (arith, h))
elements_tell (t ∷ []) x y h a b = absurd (omega (arith, h))
elements_tell (t ∷ u ∷ []) x y h a b = absurd (omega (arith, h))
elements_tell (t ∷ u ∷ v ∷ ts) x y h a b =
    ap (λ z. is_some (pid_in (tree_of z)) && same (tree_of x) (word "trace")) b ∙ ap (λ z. is_some (pid_in (tree_of u)) && same (tree_of z) (word "trace")) a
    ∙ three_elements (tree_of t) (tree_of u) (tree_of v) (trees_of ts)
