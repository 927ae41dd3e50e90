-- Terms without their stack traces.
use Rattle.std.proofs.Common.{◌≡◌, ◌≢◌, ℕ, ◌+◌, ◌<◌, ◌==◌, Bool, true, false, ◌&&◌, ◌||◌, List, [], ◌∷◌, length, get_or, drop, map, refl, ap, rules, arith}
use Rattle.def_term.specs.Tree.{Tree, tuple, list, Trees, none, more, of_elements}
use Rattle.def_trace_text.specs.StackTraces.{is_atom, is_int, is_list, is_stack_entry, are_stack_entries, is_stack, without_stacks, each_without_stacks}
use Rattle.tn_term.specs.declared.term.Term.{Term}
use Rattle.tn_term.specs.Views.{tree_of, trees_of}
use Rattle.tn_term.proofs.Trees.{here}

-- ---- entries

pub not_four : {A : Type 0} (ts : List (Term A)) → length ts ≢ 4 → is_stack_entry (tuple (trees_of ts)) ≡ false
not_four [] h = refl
not_four (a ∷ []) h = refl
not_four (a ∷ b ∷ []) h = refl
not_four (a ∷ b ∷ c ∷ []) h = refl
not_four (a ∷ b ∷ c ∷ d ∷ []) h = absurd (h refl)
not_four (a ∷ b ∷ c ∷ d ∷ e ∷ ts) h = refl

abbrev is_entry : (m f a l : Tree) → Bool
is_entry m f a l = is_atom m && (is_atom f && ((is_int a || is_list a) && is_list l))

pub of_four :
    {A : Type 0} (ts : List (Term A)) (x y z w : Term A) → length ts ≡ 4 → x ≡ get_or ts 0 x → y ≡ get_or ts 1 y → z ≡ get_or ts 2 z → w ≡ get_or ts 3 w
    → is_entry (tree_of x) (tree_of y) (tree_of z) (tree_of w) ≡ is_stack_entry (tuple (trees_of ts))
of_four [] x y z w four a b c d = absurd (omega arith)
of_four (p ∷ []) x y z w four a b c d = absurd (omega arith)
of_four (p ∷ q ∷ []) x y z w four a b c d = absurd (omega arith)
of_four (p ∷ q ∷ r ∷ []) x y z w four a b c d = absurd (omega arith)
of_four (p ∷ q ∷ r ∷ s ∷ []) x y z w four a b c d = λ i. is_entry (tree_of (a i)) (tree_of (b i)) (tree_of (c i)) (tree_of (d i))
of_four (p ∷ q ∷ r ∷ s ∷ t ∷ ts) x y z w four a b c d = absurd (omega arith)

-- ---- stack traces

-- the entry at a place, and those after it
pub entries_from :
    {A : Type 0} (ts : List (Term A)) (i : ℕ) (x : Term A) → i < length ts → x ≡ get_or ts i x → are_stack_entries (trees_of (drop i ts)) ≡ is_stack_entry (tree_of x) && are_stack_entries (trees_of (drop (i + 1) ts))
entries_from ts i x below is = ap are_stack_entries (here tree_of ts i x below is)

pub some_entries : {A : Type 0} (ts : List (Term A)) → 0 < length ts → are_stack_entries (trees_of ts) ≡ is_stack (trees_of ts)
some_entries [] h = absurd (omega (arith, h))
some_entries (t ∷ ts) h = refl

pub some_there : (n : ℕ) → (n == 0) ≡ false → 0 < n
some_there n e = search rules

pub no_entries : {A : Type 0} (ts : List (Term A)) → length ts ≡ 0 → false ≡ is_stack (trees_of ts)
no_entries [] h = refl
no_entries (t ∷ ts) h = absurd (omega (arith, h))

-- ---- terms

pub each_seen : {A : Type 0} (ts : List (Term A)) → of_elements (map (λ t. without_stacks (tree_of t)) ts) ≡ each_without_stacks (trees_of ts)
each_seen [] = refl
each_seen (t ∷ ts) = ap (λ us. more (without_stacks (tree_of t)) us) (each_seen ts)

pub list_left : (ts : Trees) → is_stack ts ≡ false → without_stacks (list ts) ≡ list (each_without_stacks ts)
list_left ts e = rw e refl

pub stack_gone : (ts : Trees) → is_stack ts ≡ true → without_stacks (list ts) ≡ list none
stack_gone ts e = rw e refl
