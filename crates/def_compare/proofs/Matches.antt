-- A trace that an entry shows is possible, and one that no entry shows is impossible.
use Rattle.std.proofs.Common.{◌≡◌, ℕ, List, [], ◌∷◌, ◌++◌, refl, sym, ◌∙◌, ap, subst, inl, inr, append_assoc}
use Rattle.std.specs.Prelude.{Bool, true, false, Option, Some, None, unwrap_or, take}
use Rattle.def_term.specs.Tree.{Tree}
use Rattle.def_term.specs.Names.{Name}
use Rattle.def_script.specs.Program.{Program}
use Rattle.def_run.specs.Run.{moves}
use Rattle.def_explore.specs.Rests.{RunQuestion, KeptMessages, IsRestAfter, kept_in}
use Rattle.def_explore.specs.Alike.{IsStateAlike}
use Rattle.def_explore.specs.Answers.{RestEntry, IsEntryFor}
use Rattle.def_explore.specs.RunsToEnd.{IsFollowed, IsEndAfter, IsRunToEnd, IsEndEntry, AreSoundWithin, AreCompleteWithin}
use Rattle.def_explore.specs.Lists.{OneOf, EachOf}
use Rattle.def_explore.proofs.Alike.{goes_on, moves_alike}
use Rattle.def_explore.proofs.RunsToEnd.{run_alike}
use Rattle.def_compare.specs.Traces.{TraceQuestion, IsShownBy, begins_trace, prefix_pairs, shown_pairs}
use Rattle.def_compare.specs.Entries.{Match, match_or, first_match}
use Rattle.def_compare.specs.Laws.{MatchIsPossible, NoMatchIsImpossible, PossibleIsNotImpossible, PossibleRests, ImpossibleHasNoRun, NoRunHasMore}
use Rattle.def_compare.proofs.Pairs.{computed_pairs_show, shown_has_pairs, prefix_has_pairs, begins_if}
use Rattle.def_compare.proofs.Beginnings.{begins_before}

pub none_is : {X : Type 0} (x : X) → None ≡ Some x → ⊥
none_is x h = cc

some_is_not : {X : Type 0} (x : X) → Some x ≡ None → ⊥
some_is_not x h = cc

pub some_is : {X : Type 0} (x y : X) → Some x ≡ Some y → x ≡ y
some_is x y h = ap (λ o. unwrap_or o x) h

-- ---- the first match

-- it is of a sound entry, with its partners
pub record IsMatch (admits : KeptMessages → Bool) (q : RunQuestion) (ss : List Name) (p : Program) (before : List ℕ) (f : KeptMessages → Option (List (ℕ × ℕ))) (m : Match) : Type 0 where
  pub entry : IsEndEntry admits q ss p before m.entry
  pub pairs : f m.entry.kept ≡ Some m.pairs

pub match_is : (admits : KeptMessages → Bool) (q : RunQuestion) (ss : List Name) (p : Program) (before : List ℕ) (f : KeptMessages → Option (List (ℕ × ℕ))) (es : List RestEntry) (m : Match) →
    AreSoundWithin admits q ss p before es → first_match f es ≡ Some m → IsMatch admits q ss p before f m
match_is admits q ss p before f [] m sound h = absurd (none_is m h)
match_is admits q ss p before f (e ∷ es) m sound h = go (f e.kept) refl h (match_is admits q ss p before f es m sound.1)
  where
    go : (o : Option (List (ℕ × ℕ))) → f e.kept ≡ o → match_or e o (first_match f es) ≡ Some m → (first_match f es ≡ Some m → IsMatch admits q ss p before f m) → IsMatch admits q ss p before f m
    go (Some ps) is g later = subst (IsMatch admits q ss p before f) (some_is (record { entry = e; pairs = ps }) m g) (record { entry = sound.0; pairs = is })
    go None is g later = later g

-- no entry has partners, where there is none
none_matches : (f : KeptMessages → Option (List (ℕ × ℕ))) (es : List RestEntry) → first_match f es ≡ None → EachOf (λ e. f e.kept ≡ None) es
none_matches f [] h = tt
none_matches f (e ∷ es) h = go (f e.kept) refl h (none_matches f es)
  where
    go : (o : Option (List (ℕ × ℕ))) → f e.kept ≡ o → match_or e o (first_match f es) ≡ None → (first_match f es ≡ None → EachOf (λ g. f g.kept ≡ None) es) → (f e.kept ≡ None) × EachOf (λ g. f g.kept ≡ None) es
    go (Some ps) is g later = absurd (some_is_not (record { entry = e; pairs = ps }) g)
    go None is g later = (is, later g)

-- so no run to its end has, where they are complete
none_in_runs : (admits : KeptMessages → Bool) (q : RunQuestion) (ss : List Name) (p : Program) (before : List ℕ) (f : KeptMessages → Option (List (ℕ × ℕ))) (es : List RestEntry) →
    AreCompleteWithin admits q ss p before es → first_match f es ≡ None → (more : List ℕ) → IsRunToEnd admits q ss p before more → f (kept_in q ss p (before ++ more)) ≡ None
none_in_runs admits q ss p before f es complete none more run = go es (none_matches f es none) (complete more run)
  where
    go : (gs : List RestEntry) → EachOf (λ e. f e.kept ≡ None) gs → OneOf (IsEntryFor q ss p (before ++ more)) gs → f (kept_in q ss p (before ++ more)) ≡ None
    go [] h k = absurd k
    go (e ∷ gs) h (inl k) = ap f (sym k) ∙ h.0
    go (e ∷ gs) h (inr k) = go gs h.1 k

-- ---- a trace

pub match_is_possible : MatchIsPossible
match_is_possible q a ss p before es m sound h =
    let is : IsMatch (begins_trace a.messages) q ss p before (shown_pairs a) m = match_is (begins_trace a.messages) q ss p before (shown_pairs a) es m sound h in
    let shown : IsShownBy m.pairs a m.entry.kept = computed_pairs_show a m.entry.kept m.pairs is.pairs in
    record { from = is.entry.from; ends = is.entry.ends; shows = subst (IsShownBy m.pairs a) (sym is.entry.keeps) shown }

pub no_match_is_impossible : NoMatchIsImpossible
no_match_is_impossible q a ss p before es complete none more ps run shown =
    shown_has_pairs a (kept_in q ss p (before ++ more)) ps shown (none_in_runs (begins_trace a.messages) q ss p before (shown_pairs a) es complete none more run)

pub possible_is_not_impossible : PossibleIsNotImpossible
possible_is_not_impossible q a ss p before j ps h none =
    let admits : KeptMessages → Bool = begins_trace a.messages in
    let first : IsStateAlike q ss p before (moves p before) = moves_alike q ss p before in
    let alike : IsStateAlike q ss p (before ++ h.from.more) (moves p before ++ h.from.more) = goes_on q ss p before (moves p before) h.from.more first in
    let there : IsStateAlike q ss p (before ++ h.from.more) j = subst (IsStateAlike q ss p (before ++ h.from.more)) (sym h.from.goes_on) alike in
    none h.from.more ps (run_alike admits q ss p h.from.more before (moves p before) first h.ends) (subst (IsShownBy ps a) (sym there.kept) h.shows)

-- ---- a run that may not go on

-- what shows the trace begins it
shown_begins : (a : TraceQuestion) (kept : KeptMessages) (ps : List (ℕ × ℕ)) → a.goes_on ≡ false → IsShownBy ps a kept → begins_trace a.messages kept ≡ true
shown_begins a kept ps stays shown = let by = shown.all stays in begins_if a.messages kept by.0 by.1

true_is_not_false : (b : Bool) → b ≡ true → b ≡ false → ⊥
true_is_not_false b h k = cc

pub possible_rests : PossibleRests
possible_rests q a ss p before j ps stays h = go h.ends.ends
  where
    at_end : begins_trace a.messages (kept_in q ss p (moves p before ++ h.from.more)) ≡ true
    at_end = subst (λ js. begins_trace a.messages (kept_in q ss p js) ≡ true) h.from.goes_on (shown_begins a (kept_in q ss p j) ps stays h.shows)

    go : IsEndAfter (begins_trace a.messages) q ss p (moves p before ++ h.from.more) → IsRestAfter p j
    go (inl rests) = subst (IsRestAfter p) (sym h.from.goes_on) rests
    go (inr out) = absurd (true_is_not_false (begins_trace a.messages (kept_in q ss p (moves p before ++ h.from.more))) at_end out)

-- a run is followed as long as it begins the trace at its end
followed_if : (ms : List Tree) (q : RunQuestion) (ss : List Name) (p : Program) (more picks : List ℕ) → begins_trace ms (kept_in q ss p (picks ++ more)) ≡ true → IsFollowed (begins_trace ms) q ss p picks more
followed_if ms q ss p [] picks h = tt
followed_if ms q ss p (pick ∷ more) picks h =
    (begins_before ms q ss p picks (pick ∷ more) h, followed_if ms q ss p more (picks ++ pick ∷ []) (subst (λ js. begins_trace ms (kept_in q ss p js) ≡ true) (sym (append_assoc picks (pick ∷ []) more)) h))

pub impossible_has_no_run : ImpossibleHasNoRun
impossible_has_no_run q a ss p before more ps stays none rests shown =
    none more ps (record { followed = followed_if a.messages q ss p more before (shown_begins a (kept_in q ss p (before ++ more)) ps stays shown); ends = inl rests }) shown

-- ---- a prefix

pub no_run_has_more : NoRunHasMore
no_run_has_more q ms ss p before es n complete none more ps run prefix =
    prefix_has_pairs (take n ms) (kept_in q ss p (before ++ more)) ps prefix (none_in_runs (begins_trace ms) q ss p before (prefix_pairs (take n ms)) es complete none more run)
