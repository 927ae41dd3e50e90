-- Why a head doesn't match the list that it is matched with (own).
-- Depends on matching, and on where a pattern differs from a term.
use Rattle.std.specs.Prelude.{◌≢◌, ℕ, List, [], ◌∷◌, length, Option, Some, None}
use Rattle.def_term.specs.Tree.{Tree, list, of_elements}
use Rattle.def_spec.specs.Matching.{Pattern, in_list, Bindings, Matches, bindings_of}
use Rattle.def_explain.specs.Mismatches.{Mismatch, mismatch, pattern_count, IsMismatch, in_element, mismatch_of}

-- the head is no list and matches none, or has another number of elements; or so many elements match together, and the next differs
pub data HeadReason : Type 0 where
  no_list : HeadReason
  other_length : HeadReason
  after_matching : ℕ → Mismatch → HeadReason

-- why the pattern of a head doesn't match the list of these elements
abbrev pub IsHeadReason : Pattern → List Tree → HeadReason → Type 0
IsHeadReason (in_list ps) ts no_list = ⊥
IsHeadReason (in_list ps) ts other_length = pattern_count ps ≢ length ts
IsHeadReason (in_list ps) ts (after_matching n m) = IsMismatch (in_list ps) (list (of_elements ts)) (in_element n m)
IsHeadReason p ts no_list = (b : Bindings) → ¬ Matches p (list (of_elements ts)) b
IsHeadReason p ts _ = ⊥

-- ---- the same, computed

-- by the place of the first difference
abbrev pub by_place : Mismatch → HeadReason
by_place (mismatch [] h t) = other_length
by_place (mismatch (n ∷ place) h t) = after_matching n (mismatch place h t)

-- of a list of patterns
abbrev pub of_mismatch : Option Mismatch → Option HeadReason
of_mismatch None = None
of_mismatch (Some m) = Some (by_place m)

-- where no binding is found
abbrev pub where_none : Option Bindings → Option HeadReason
where_none None = Some no_list
where_none (Some b) = None

-- the reason, where the head doesn't match
abbrev pub head_reason : Pattern → List Tree → Option HeadReason
head_reason (in_list ps) ts = of_mismatch (mismatch_of (in_list ps) (list (of_elements ts)))
head_reason p ts = where_none (bindings_of p (list (of_elements ts)))
