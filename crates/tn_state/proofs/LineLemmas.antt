-- The terms of a line, which were pushed one after the other.
use Rattle.std.proofs.Common.{◌≡◌, ◌∙◌, ℕ, List, [], ◌∷◌, ◌++◌, map, sym, ap}
use Rattle.def_term.specs.Tree.{Tree, pid}
use Rattle.def_state.specs.Lines.{terms_line}
use Rattle.def_state.specs.SessionTexts.{owner_flags_text}
use Rattle.tn_term.proofs.Views.{tree_of_pid}
use Rattle.tn_term.specs.Views.{tree_of}
use Rattle.tn_term.specs.declared.term.Term.TheVariants.{Pid}

-- the lines of a process
pub pid_line : (A : Type 0) (n : ℕ) (ts : List Tree) → terms_line (pid n ∷ ts) ≡ terms_line (tree_of {A = A} (Pid n) ∷ ts)
pid_line A n ts = ap (λ t. terms_line (t ∷ ts)) (sym (tree_of_pid A n))

pub pid_flags : (A : Type 0) (n : ℕ) (ts : List Tree) → owner_flags_text (pid n) ts ≡ owner_flags_text (tree_of {A = A} (Pid n)) ts
pid_flags A n ts = ap (λ t. owner_flags_text t ts) (sym (tree_of_pid A n))

module _ {X : Type 0} (seen : X → Tree) (none one : List X) (x : X) (s : Tree) where
  pub one_term : (all : List X) → none ≡ [] → one ≡ none ++ x ∷ [] → all ≡ one → seen x ≡ s → map seen all ≡ s ∷ []
  one_term all empty added same is = ap (map seen) (same ∙ added ∙ ap (λ xs. xs ++ x ∷ []) empty) ∙ ap (λ t. t ∷ []) is

  pub two_terms : (two all : List X) (y : X) (t : Tree) → none ≡ [] → one ≡ none ++ x ∷ [] → two ≡ one ++ y ∷ [] → all ≡ two → seen x ≡ s → seen y ≡ t → map seen all ≡ s ∷ t ∷ []
  two_terms two all y t empty added last same is next =
      ap (map seen) (same ∙ last ∙ ap (λ xs. xs ++ y ∷ []) (added ∙ ap (λ xs. xs ++ x ∷ []) empty)) ∙ ap (λ u. u ∷ seen y ∷ []) is ∙ ap (λ u. s ∷ u ∷ []) next
