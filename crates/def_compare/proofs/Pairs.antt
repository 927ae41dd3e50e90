-- The partners that are computed are some by which the run shows the trace, and there are some where there are any.
use Rattle.std.proofs.Common.{◌≡◌, ◌||◌, ℕ, List, Bool, true, false, cond, refl, sym, ◌∙◌, ap}
use Rattle.std.specs.Prelude.{Option, Some, None, is_some}
use Rattle.def_term.specs.Tree.{Tree}
use Rattle.def_explore.specs.Rests.{KeptMessages}
use Rattle.def_renaming.specs.Renaming.{IsOneToOne, HaveRenamedPrefixes, first_renaming}
use Rattle.def_renaming.proofs.Search.{found_is_sound, renaming_is_found}
use Rattle.def_compare.specs.Traces.{TraceQuestion, IsPrefixBy, IsShownBy, BeginsTraceBy, orders_in, lists_in, lists_with_messages, prefix_pairs, begins_trace, has_no_more}
use Rattle.def_compare.specs.Laws.{ComputedPairsShow, ShownHasPairs}

-- ---- of a prefix

pub pairs_are_of_prefix : (ms : List Tree) (kept : KeptMessages) (ps : List (ℕ × ℕ)) → prefix_pairs ms kept ≡ Some ps → IsPrefixBy ps ms kept
pairs_are_of_prefix ms kept ps h =
    let both : IsOneToOne ps × HaveRenamedPrefixes ps (orders_in kept ms) (lists_in kept) = found_is_sound (orders_in kept ms) (lists_in kept) ps h in
    record { one = both.0; first = both.1 }

none_is : {X : Type 0} (x : X) → None ≡ Some x → ⊥
none_is x h = cc

pub prefix_has_pairs : (ms : List Tree) (kept : KeptMessages) (ps : List (ℕ × ℕ)) → IsPrefixBy ps ms kept → prefix_pairs ms kept ≡ None → ⊥
prefix_has_pairs ms kept ps h none =
    let found : (qs : List (ℕ × ℕ)) × (prefix_pairs ms kept ≡ Some qs) = renaming_is_found (orders_in kept ms) (lists_in kept) ps h.one h.first in
    none_is found.0 (sym none ∙ found.1)

-- ---- of a trace

-- what is kept begins the trace by pairs where it does
pub begins_by : (ms : List Tree) (kept : KeptMessages) → begins_trace ms kept ≡ true → (rs : List (ℕ × ℕ)) × BeginsTraceBy rs ms kept
begins_by ms kept h = go (first_renaming (lists_with_messages kept) (orders_in kept ms)) refl h
  where
    go : (o : Option (List (ℕ × ℕ))) → first_renaming (lists_with_messages kept) (orders_in kept ms) ≡ o → is_some o ≡ true → (rs : List (ℕ × ℕ)) × BeginsTraceBy rs ms kept
    go (Some rs) is e = let both = found_is_sound (lists_with_messages kept) (orders_in kept ms) rs is in (rs, record { one = both.0; first = both.1 })
    go None is e = absurd (no e)
      where
        no : false ≡ true → ⊥
        no e = cc

pub begins_if : (ms : List Tree) (kept : KeptMessages) (rs : List (ℕ × ℕ)) → BeginsTraceBy rs ms kept → begins_trace ms kept ≡ true
begins_if ms kept rs h =
    let found : (qs : List (ℕ × ℕ)) × (first_renaming (lists_with_messages kept) (orders_in kept ms) ≡ Some qs) = renaming_is_found (lists_with_messages kept) (orders_in kept ms) rs h.one h.first in
    ap is_some found.1

-- where the run may not go on, what is kept begins the trace
begun : (a : TraceQuestion) (kept : KeptMessages) → has_no_more a kept ≡ true → a.goes_on ≡ false → (rs : List (ℕ × ℕ)) × BeginsTraceBy rs a.messages kept
begun a kept h e = begins_by a.messages kept (go a.goes_on e h)
  where
    go : (b : Bool) → b ≡ false → (b || begins_trace a.messages kept) ≡ true → begins_trace a.messages kept ≡ true
    go false e h = h
    go true e h = absurd (no e)
      where
        no : true ≡ false → ⊥
        no e = cc

no_more : (a : TraceQuestion) (kept : KeptMessages) → (a.goes_on ≡ false → (rs : List (ℕ × ℕ)) × BeginsTraceBy rs a.messages kept) → has_no_more a kept ≡ true
no_more a kept h = go a.goes_on refl
  where
    go : (b : Bool) → a.goes_on ≡ b → (b || begins_trace a.messages kept) ≡ true
    go true e = refl
    go false e = let by = h e in begins_if a.messages kept by.0 by.1

pub computed_pairs_show : ComputedPairsShow
computed_pairs_show a kept ps h = go (has_no_more a kept) refl h
  where
    go : (b : Bool) → has_no_more a kept ≡ b → cond b (prefix_pairs a.messages kept) None ≡ Some ps → IsShownBy ps a kept
    go true e g = record { prefix = pairs_are_of_prefix a.messages kept ps g; all = begun a kept e }
    go false e g = absurd (none_is ps g)

pub shown_has_pairs : ShownHasPairs
shown_has_pairs a kept ps shown none = prefix_has_pairs a.messages kept ps shown.prefix (ap (λ b. cond b (prefix_pairs a.messages kept) None) (sym (no_more a kept shown.all)) ∙ none)
