-- The second element of a tuple.
use Rattle.std.proofs.Common.{◌≡◌, ◌∙◌, ◌<◌, ◌≤◌, List, [], ◌∷◌, length, get_or, None, refl, sym, ap, arith}
use Rattle.def_term.specs.Tree.{Tree, int, atom, pid, tuple, list, Trees, more, pid_in}
use Rattle.tn_term.specs.Views.{tree_of, trees_of}
use Rattle.tn_term.specs.declared.term.Term.{Term}
use Rattle.def_explore.specs.Rests.{message_process}

-- a tuple of fewer has none
pub few_have_none : {A : Type 0} (items : List (Term A)) → length items < 2 → None ≡ message_process (tuple (trees_of items))
few_have_none [] below = refl
few_have_none (a ∷ []) below = refl
few_have_none (a ∷ b ∷ items) below = absurd (omega arith)

second_tree : (t u : Tree) (ts : Trees) → message_process (tuple (more t (more u ts))) ≡ pid_in u
second_tree t (int n) ts = refl
second_tree t (atom s) ts = refl
second_tree t (pid n) ts = refl
second_tree t (tuple us) ts = refl
second_tree t (list us) ts = refl

pub second_is : {A : Type 0} (items : List (Term A)) (x : Term A) → 2 ≤ length items → x ≡ get_or items 1 x → pid_in (tree_of x) ≡ message_process (tuple (trees_of items))
second_is [] x few is = absurd (omega arith)
second_is (a ∷ []) x few is = absurd (omega arith)
second_is (a ∷ b ∷ items) x few is = ap (λ y. pid_in (tree_of y)) is ∙ sym (second_tree (tree_of a) (tree_of b) (trees_of items))
