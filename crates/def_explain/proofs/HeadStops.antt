-- What is computed of a head is the reason for which it doesn't match.
use Rattle.std.proofs.Common.{◌≡◌, zero, suc, ◌==◌, false, List, [], ◌∷◌, length, Option, Some, None, refl, sym, ap, ◌∙◌, subst, if◌then◌else◌, add-one}
use Rattle.def_term.specs.Tree.{Tree, list, of_elements, count}
use Rattle.def_spec.specs.Matching.{Pattern, Patterns, variable, anything, only_term, in_tuple, in_list, Bindings, bindings_of}
use Rattle.def_spec.proofs.Outcomes.{walk_misses_none}
use Rattle.def_explain.specs.Mismatches.{is_term, is_bound, is_tuple_of, is_list_of, Mismatch, mismatch, pattern_count, IsMismatch, mismatch_in, mismatch_of}
use Rattle.def_explain.specs.Heads.{HeadReason, no_list, other_length, after_matching, IsHeadReason, by_place, of_mismatch, where_none, head_reason}
use Rattle.def_explain.proofs.Mismatches.{same_lengths, mismatch_sound, mismatch_complete, mismatch_there, bound_none}

count_all : (ts : List Tree) → count (of_elements ts) ≡ length ts
count_all [] = refl
count_all (t ∷ ts) = add-one _ ∙ ap suc (count_all ts)

some_is : {X : Type 0} (x y : X) → Some x ≡ Some y → x ≡ y
some_is x y e = cc e

-- the reason by a place is one of the head that mismatch there
placed_sound : (ps : Patterns) (ts : List Tree) (m : Mismatch) → mismatch_of (in_list ps) (list (of_elements ts)) ≡ Some m → IsHeadReason (in_list ps) ts (by_place m)
placed_sound ps ts (mismatch [] (is_list_of n) u) e =
    let x : IsMismatch (in_list ps) (list (of_elements ts)) (mismatch [] (is_list_of n) u) = mismatch_sound (in_list ps) (list (of_elements ts)) (mismatch [] (is_list_of n) u) e in
    λ q. x.1.2.1 (of_elements ts) refl (x.1.2.0 ∙ q ∙ sym (count_all ts))
placed_sound ps ts (mismatch [] (is_tuple_of n) u) e = absurd (mismatch_sound (in_list ps) (list (of_elements ts)) (mismatch [] (is_tuple_of n) u) e).1.2
placed_sound ps ts (mismatch [] (is_term v) u) e = absurd (mismatch_sound (in_list ps) (list (of_elements ts)) (mismatch [] (is_term v) u) e).1.2
placed_sound ps ts (mismatch [] (is_bound n v) u) e = absurd (mismatch_sound (in_list ps) (list (of_elements ts)) (mismatch [] (is_bound n v) u) e).1.2
placed_sound ps ts (mismatch (n ∷ place) h u) e = mismatch_sound (in_list ps) (list (of_elements ts)) (mismatch (n ∷ place) h u) e

-- no binding is found, and the head is no list
none_there : (o : Option Bindings) (r : HeadReason) → where_none o ≡ Some r → (o ≡ None) × (r ≡ no_list)
none_there None r e = (refl, cc e)
none_there (Some b) r e = absurd (cc e)

list_sound : (ps : Patterns) (ts : List Tree) (r : HeadReason) → head_reason (in_list ps) ts ≡ Some r → IsHeadReason (in_list ps) ts r
list_sound ps ts r e = go (mismatch_of (in_list ps) (list (of_elements ts))) refl
  where
    go : (o : Option Mismatch) → mismatch_of (in_list ps) (list (of_elements ts)) ≡ o → IsHeadReason (in_list ps) ts r
    go None h = absurd (cc (sym e ∙ ap of_mismatch h))
    go (Some m) h = subst (IsHeadReason (in_list ps) ts) (some_is _ _ (sym (ap of_mismatch h) ∙ e)) (placed_sound ps ts m h)

pub head_sound : (p : Pattern) (ts : List Tree) (r : HeadReason) → head_reason p ts ≡ Some r → IsHeadReason p ts r
head_sound (in_list ps) ts r e = list_sound ps ts r e
head_sound (variable n) ts r e =
    let h : (bindings_of (variable n) (list (of_elements ts)) ≡ None) × (r ≡ no_list) = none_there _ r e in
    subst (IsHeadReason (variable n) ts) (sym h.1) ((walk_misses_none (variable n) (list (of_elements ts))).0 h.0)
head_sound anything ts r e =
    let h : (bindings_of anything (list (of_elements ts)) ≡ None) × (r ≡ no_list) = none_there _ r e in
    subst (IsHeadReason anything ts) (sym h.1) ((walk_misses_none anything (list (of_elements ts))).0 h.0)
head_sound (only_term t) ts r e =
    let h : (bindings_of (only_term t) (list (of_elements ts)) ≡ None) × (r ≡ no_list) = none_there _ r e in
    subst (IsHeadReason (only_term t) ts) (sym h.1) ((walk_misses_none (only_term t) (list (of_elements ts))).0 h.0)
head_sound (in_tuple ps) ts r e =
    let h : (bindings_of (in_tuple ps) (list (of_elements ts)) ≡ None) × (r ≡ no_list) = none_there _ r e in
    subst (IsHeadReason (in_tuple ps) ts) (sym h.1) ((walk_misses_none (in_tuple ps) (list (of_elements ts))).0 h.0)

list_complete : (ps : Patterns) (ts : List Tree) (r : HeadReason) → IsHeadReason (in_list ps) ts r → head_reason (in_list ps) ts ≡ Some r
list_complete ps ts no_list h = absurd h
list_complete ps ts other_length h =
    let differ : (pattern_count ps == count (of_elements ts)) ≡ false = same_lengths _ _ (λ e. h (e ∙ count_all ts)) in
    ap (λ q. of_mismatch (if q then mismatch_in zero ps (of_elements ts) [] else Some (mismatch [] (is_list_of (pattern_count ps)) (list (of_elements ts))))) differ
list_complete ps ts (after_matching n (mismatch place k u)) h = ap of_mismatch (mismatch_complete (in_list ps) (list (of_elements ts)) (mismatch (n ∷ place) k u) h)

pub head_complete : (p : Pattern) (ts : List Tree) (r : HeadReason) → IsHeadReason p ts r → head_reason p ts ≡ Some r
head_complete (in_list ps) ts r h = list_complete ps ts r h
head_complete (variable n) ts no_list h = ap where_none ((walk_misses_none (variable n) (list (of_elements ts))).1 h)
head_complete anything ts no_list h = ap where_none ((walk_misses_none anything (list (of_elements ts))).1 h)
head_complete (only_term t) ts no_list h = ap where_none ((walk_misses_none (only_term t) (list (of_elements ts))).1 h)
head_complete (in_tuple ps) ts no_list h = ap where_none ((walk_misses_none (in_tuple ps) (list (of_elements ts))).1 h)
head_complete p ts r h = absurd h

-- where no binding is found there is a reason
pub head_there : (p : Pattern) (ts : List Tree) → bindings_of p (list (of_elements ts)) ≡ None → (r : HeadReason) × (head_reason p ts ≡ Some r)
head_there (in_list ps) ts e =
    let m : (x : Mismatch) × (mismatch_of (in_list ps) (list (of_elements ts)) ≡ Some x) = mismatch_there (in_list ps) (list (of_elements ts)) e in
    (by_place m.0, ap of_mismatch m.1)
head_there (variable n) ts e = (no_list, ap where_none e)
head_there anything ts e = (no_list, ap where_none e)
head_there (only_term t) ts e = (no_list, ap where_none e)
head_there (in_tuple ps) ts e = (no_list, ap where_none e)

-- and where one is found there is none
pub head_matched : (p : Pattern) (ts : List Tree) (b : Bindings) → bindings_of p (list (of_elements ts)) ≡ Some b → head_reason p ts ≡ None
head_matched (in_list ps) ts b e = ap of_mismatch (bound_none (in_list ps) (list (of_elements ts)) [] b e)
head_matched (variable n) ts b e = ap where_none e
head_matched anything ts b e = ap where_none e
head_matched (only_term t) ts b e = ap where_none e
head_matched (in_tuple ps) ts b e = ap where_none e
