-- The walk over a head up to where it differs, step by step.
use Rattle.std.proofs.Common.{◌≡◌, ◌∙◌, sym, ap, ap₂, subst, refl, rules, ℕ, zero, suc, ◌+◌, ◌<◌, ◌≤◌, ◌==◌, Bool, true, false, if◌then◌else◌, List, [], ◌∷◌, map, length, drop, get_or, Option, Some, None, eqb-true, arith}
use Rattle.std.specs.Option.{option_and_then}
use Rattle.std.specs.declared.vec.Vec.{Vec}
use Rattle.def_term.specs.Tree.{Tree, int, atom, pid, tuple, list, Trees, count}
use Rattle.def_term.specs.Order.{same}
use Rattle.def_spec.specs.Functions.{nth}
use Rattle.def_spec.specs.Matching.{Pattern, Patterns, variable, only_term, in_tuple, in_list, no_patterns, and_pattern, Bindings, value_bound, bind_on, bind_each}
use Rattle.def_explain.specs.Mismatches.{HeadPart, is_bound, is_term, is_tuple_of, is_list_of, mismatch, pattern_count, in_element, here_or, unlike_bound, mismatch_on, mismatch_in, mismatch_of}
use Rattle.def_explain.specs.Mismatches as mismatches
use Rattle.def_explain.proofs.Mismatches.{self_equal, same_lengths}
use Rattle.tn_term.specs.Views.{tree_of}
use Rattle.tn_term.specs.declared.term.Term.{Term}
use Rattle.tn_spec.specs.Views.{pattern_seen, patterns_seen}
use Rattle.tn_spec.specs.declared.pattern.Pattern as code
use Rattle.tn_guard.specs.Views.{tuple_trees, list_trees}
use Rattle.tn_guard.proofs.Places.{rest_from, rest_here, rest_past}
use Rattle.tn_head.proofs.Walk.{patterns_here, patterns_past}
use Rattle.tn_head.specs.Views.{binding_seen}
use Rattle.tn_head.specs.declared.bindings.Binding.{Binding}
use Rattle.tn_mismatch.specs.declared.mismatch.Mismatch.{Mismatch}
use Rattle.tn_mismatch.specs.Views.{mismatch_seen, mismatches_seen}
use Rattle.tn_mismatch.specs.Walks.{of_length, IsWalk}

-- ---- elements

pub here_differs : {P : Type 0} (ps : List (code.Pattern P)) (ts : Trees) (i : ℕ) (p : code.Pattern P) (t : Tree) (b : Bindings) (m : mismatches.Mismatch)
    → i < length ps → p ≡ get_or ps i p → Some t ≡ nth ts i → mismatch_on (pattern_seen p) t b ≡ Some m
    → mismatch_in i (patterns_seen (drop i ps)) (rest_from i ts) b ≡ Some (in_element i m)
here_differs ps ts i p t b m n is at e =
    ap₂ (λ qs us. mismatch_in i qs us b) (patterns_here ps i p n is) (rest_here ts i t at)
    ∙ ap (λ o. here_or i o (option_and_then (mismatch_in (suc i) (patterns_seen (drop (i + 1) ps)) (rest_from (i + 1) ts)) (bind_on (pattern_seen p) t b))) e

pub here_matches : {P : Type 0} (ps : List (code.Pattern P)) (ts : Trees) (i : ℕ) (p : code.Pattern P) (t : Tree) (b c : Bindings)
    → i < length ps → p ≡ get_or ps i p → Some t ≡ nth ts i → mismatch_on (pattern_seen p) t b ≡ None → bind_on (pattern_seen p) t b ≡ Some c
    → mismatch_in i (patterns_seen (drop i ps)) (rest_from i ts) b ≡ mismatch_in (i + 1) (patterns_seen (drop (i + 1) ps)) (rest_from (i + 1) ts) c
here_matches ps ts i p t b c n is at none some =
    let next : suc i ≡ i + 1 = omega arith in
    let rest : Bindings → Option mismatches.Mismatch = mismatch_in (suc i) (patterns_seen (drop (i + 1) ps)) (rest_from (i + 1) ts) in
    ap₂ (λ qs us. mismatch_in i qs us b) (patterns_here ps i p n is) (rest_here ts i t at)
    ∙ ap (λ o. here_or i o (option_and_then rest (bind_on (pattern_seen p) t b))) none
    ∙ ap (option_and_then rest) some
    ∙ ap (λ k. mismatch_in k (patterns_seen (drop (i + 1) ps)) (rest_from (i + 1) ts) c) next

pub past_all : {P : Type 0} (ps : List (code.Pattern P)) (ts : Trees) (i : ℕ) (b : Bindings) → length ps ≤ i → mismatch_in i (patterns_seen (drop i ps)) (rest_from i ts) b ≡ None
past_all ps ts i b n = ap (λ qs. mismatch_in i qs (rest_from i ts) b) (patterns_past ps i n)

-- ---- patterns

pub count_patterns : {P : Type 0} (ps : List (code.Pattern P)) → pattern_count (patterns_seen ps) ≡ length ps
count_patterns [] = refl
count_patterns (p ∷ ps) =
    let more : length ps + 1 ≡ suc (length ps) = omega arith in
    ap suc (count_patterns ps)

pub pattern_of_tuple : {P : Type 0} (v : Vec (code.Pattern P) P) → pattern_seen (code.Tuple v) ≡ in_tuple (patterns_seen v.items)
pattern_of_tuple v = search (rules, code.the_lemmas)

pub pattern_of_list : {P : Type 0} (v : Vec (code.Pattern P) P) → pattern_seen (code.List v) ≡ in_list (patterns_seen v.items)
pattern_of_list v = search (rules, code.the_lemmas)

-- elements of that length, or none
one_length : (n : ℕ) (us ts : Trees) → Some ts ≡ (if n == count us then Some us else None) → ((n == count us) ≡ true) × (us ≡ ts)
one_length n us ts e = go (n == count us) e
  where
    go : (q : Bool) → Some ts ≡ (if q then Some us else None) → (q ≡ true) × (us ≡ ts)
    go true h = (refl, cc)
    go false h = absurd (cc h)

no_length : (n : ℕ) (us : Trees) → None ≡ (if n == count us then Some us else None) → (n == count us) ≡ false
no_length n us e = go (n == count us) e
  where
    go : (q : Bool) → None ≡ (if q then Some us else None) → q ≡ false
    go true h = absurd (cc h)
    go false h = refl

-- a tuple of patterns and one of as many terms differ where their elements do
pub tuple_differs : (ps : Patterns) (t : Tree) (ts : Trees) (b : Bindings) → Some ts ≡ of_length (pattern_count ps) (tuple_trees t) → mismatch_on (in_tuple ps) t b ≡ mismatch_in 0 ps ts b
tuple_differs ps (int z) ts b e = absurd (cc e)
tuple_differs ps (atom z) ts b e = absurd (cc e)
tuple_differs ps (pid z) ts b e = absurd (cc e)
tuple_differs ps (list z) ts b e = absurd (cc e)
tuple_differs ps (tuple us) ts b e =
    let r : ((pattern_count ps == count us) ≡ true) × (us ≡ ts) = one_length _ _ _ e in
    ap (λ q. if q then mismatch_in 0 ps us b else Some (mismatch [] (is_tuple_of (pattern_count ps)) (tuple us))) r.0 ∙ ap (λ x. mismatch_in 0 ps x b) r.1

pub tuple_binds : (ps : Patterns) (t : Tree) (ts : Trees) (b : Bindings) (n : ℕ) → Some ts ≡ of_length n (tuple_trees t) → bind_on (in_tuple ps) t b ≡ bind_each ps ts b
tuple_binds ps (int z) ts b n e = absurd (cc e)
tuple_binds ps (atom z) ts b n e = absurd (cc e)
tuple_binds ps (pid z) ts b n e = absurd (cc e)
tuple_binds ps (list z) ts b n e = absurd (cc e)
tuple_binds ps (tuple us) ts b n e = ap (λ x. bind_each ps x b) (one_length n us ts e).1

pub no_tuple : (ps : Patterns) (t : Tree) (b : Bindings) → None ≡ of_length (pattern_count ps) (tuple_trees t) → mismatch_on (in_tuple ps) t b ≡ Some (mismatch [] (is_tuple_of (pattern_count ps)) t)
no_tuple ps (int z) b e = refl
no_tuple ps (atom z) b e = refl
no_tuple ps (pid z) b e = refl
no_tuple ps (list z) b e = refl
no_tuple ps (tuple us) b e = ap (λ q. if q then mismatch_in 0 ps us b else Some (mismatch [] (is_tuple_of (pattern_count ps)) (tuple us))) (no_length _ _ e)

-- and a list of patterns
pub list_differs : (ps : Patterns) (t : Tree) (ts : Trees) (b : Bindings) → Some ts ≡ of_length (pattern_count ps) (list_trees t) → mismatch_on (in_list ps) t b ≡ mismatch_in 0 ps ts b
list_differs ps (int z) ts b e = absurd (cc e)
list_differs ps (atom z) ts b e = absurd (cc e)
list_differs ps (pid z) ts b e = absurd (cc e)
list_differs ps (tuple z) ts b e = absurd (cc e)
list_differs ps (list us) ts b e =
    let r : ((pattern_count ps == count us) ≡ true) × (us ≡ ts) = one_length _ _ _ e in
    ap (λ q. if q then mismatch_in 0 ps us b else Some (mismatch [] (is_list_of (pattern_count ps)) (list us))) r.0 ∙ ap (λ x. mismatch_in 0 ps x b) r.1

pub list_binds : (ps : Patterns) (t : Tree) (ts : Trees) (b : Bindings) (n : ℕ) → Some ts ≡ of_length n (list_trees t) → bind_on (in_list ps) t b ≡ bind_each ps ts b
list_binds ps (int z) ts b n e = absurd (cc e)
list_binds ps (atom z) ts b n e = absurd (cc e)
list_binds ps (pid z) ts b n e = absurd (cc e)
list_binds ps (tuple z) ts b n e = absurd (cc e)
list_binds ps (list us) ts b n e = ap (λ x. bind_each ps x b) (one_length n us ts e).1

pub no_list : (ps : Patterns) (t : Tree) (b : Bindings) → None ≡ of_length (pattern_count ps) (list_trees t) → mismatch_on (in_list ps) t b ≡ Some (mismatch [] (is_list_of (pattern_count ps)) t)
no_list ps (int z) b e = refl
no_list ps (atom z) b e = refl
no_list ps (pid z) b e = refl
no_list ps (tuple z) b e = refl
no_list ps (list us) b e = ap (λ q. if q then mismatch_in 0 ps us b else Some (mismatch [] (is_list_of (pattern_count ps)) (list us))) (no_length _ _ e)

-- ---- walks

-- of the same difference and the same bindings
pub walk_of : {A : Type 0} (x : Option (Mismatch A)) (m n : Option mismatches.Mismatch) (b c : Option Bindings) (bs : List (Binding A)) → n ≡ m → c ≡ b → IsWalk x m b bs → IsWalk x n c bs
walk_of x m n b c bs e f h = subst (λ k. IsWalk x k c bs) (sym e) (subst (λ k. IsWalk x m k bs) (sym f) h)

-- with a difference, and without one
pub walk_some : {A : Type 0} (x : Option (Mismatch A)) (y : Mismatch A) (m : Option mismatches.Mismatch) (b : Option Bindings) (bs : List (Binding A)) → x ≡ Some y → IsWalk x m b bs → m ≡ Some (mismatch_seen y)
walk_some x y m b bs e h = subst (λ z. IsWalk z m b bs) e h

pub walk_none : {A : Type 0} (x : Option (Mismatch A)) (m : Option mismatches.Mismatch) (b : Option Bindings) (bs : List (Binding A)) → x ≡ None → IsWalk x m b bs → (m ≡ None) × (b ≡ Some (map binding_seen bs))
walk_none x m b bs e h = subst (λ z. IsWalk z m b bs) e h

pub walk_seen : {A : Type 0} (x : Option (Mismatch A)) (m : Option mismatches.Mismatch) (b : Option Bindings) (bs : List (Binding A)) → IsWalk x m b bs → mismatches_seen x ≡ m
walk_seen None m b bs h = sym h.0
walk_seen (Some y) m b bs h = sym h

-- ---- whole lists

-- of another length, and of the same
pub other_length : (ps : Patterns) (ts : Trees) → (pattern_count ps ≡ count ts → ⊥) → mismatch_of (in_list ps) (list ts) ≡ Some (mismatch [] (is_list_of (pattern_count ps)) (list ts))
other_length ps ts h = ap (λ q. if q then mismatch_in 0 ps ts [] else Some (mismatch [] (is_list_of (pattern_count ps)) (list ts))) (same_lengths _ _ h)

pub same_length : (ps : Patterns) (ts : Trees) → pattern_count ps ≡ count ts → mismatch_of (in_list ps) (list ts) ≡ mismatch_in 0 ps ts []
same_length ps ts h = ap (λ q. if q then mismatch_in 0 ps ts [] else Some (mismatch [] (is_list_of (pattern_count ps)) (list ts))) (ap (λ k. pattern_count ps == k) (sym h) ∙ self_equal (pattern_count ps))
