-- What is promised of a trace that is compared with all runs (own).
-- Depends on entries that are sound and complete.
use Rattle.std.specs.Prelude.{◌≡◌, ◌<◌, ◌≤◌, ℕ, false, List, ◌++◌, Some, None}
use Rattle.def_term.specs.Tree.{Tree}
use Rattle.def_term.specs.Names.{Name}
use Rattle.def_script.specs.Program.{Program}
use Rattle.def_explore.specs.Rests.{IsRestAfter, RunQuestion, KeptMessages, kept_in}
use Rattle.def_explore.specs.Answers.{RestEntry}
use Rattle.def_explore.specs.RunsToEnd.{AreSoundWithin, AreCompleteWithin}
use Rattle.def_compare.specs.Traces.{TraceQuestion, IsShownBy, begins_trace, shown_pairs}
use Rattle.def_compare.specs.Entries.{IsPossibleBy, IsImpossible, NoneBeginsWith, Match, Prefix, possible_by, prefix_match, longest_prefix}

-- the partners that are computed are some by which the run shows the trace
abbrev pub ComputedPairsShow : Type 0
ComputedPairsShow = (a : TraceQuestion) (kept : KeptMessages) (ps : List (ℕ × ℕ)) → shown_pairs a kept ≡ Some ps → IsShownBy ps a kept

-- and there are some, where there are any
abbrev pub ShownHasPairs : Type 0
ShownHasPairs = (a : TraceQuestion) (kept : KeptMessages) (ps : List (ℕ × ℕ)) → IsShownBy ps a kept → shown_pairs a kept ≡ None → ⊥

-- a trace that a sound entry shows is possible by its journal
abbrev pub MatchIsPossible : Type 0
MatchIsPossible =
    (q : RunQuestion) (a : TraceQuestion) (ss : List Name) (p : Program) (before : List ℕ) (es : List RestEntry) (m : Match) →
    AreSoundWithin (begins_trace a.messages) q ss p before es → possible_by a es ≡ Some m → IsPossibleBy q a ss p before m.entry.journal m.pairs

-- one that no entry shows, where they are complete, is impossible
abbrev pub NoMatchIsImpossible : Type 0
NoMatchIsImpossible =
    (q : RunQuestion) (a : TraceQuestion) (ss : List Name) (p : Program) (before : List ℕ) (es : List RestEntry) →
    AreCompleteWithin (begins_trace a.messages) q ss p before es → possible_by a es ≡ None → IsImpossible q a ss p before

-- it is never both
abbrev pub PossibleIsNotImpossible : Type 0
PossibleIsNotImpossible =
    (q : RunQuestion) (a : TraceQuestion) (ss : List Name) (p : Program) (before journal : List ℕ) (ps : List (ℕ × ℕ)) →
    IsPossibleBy q a ss p before journal ps → IsImpossible q a ss p before → ⊥

-- a run that shows a trace without going on comes to rest
abbrev pub PossibleRests : Type 0
PossibleRests =
    (q : RunQuestion) (a : TraceQuestion) (ss : List Name) (p : Program) (before journal : List ℕ) (ps : List (ℕ × ℕ)) →
    a.goes_on ≡ false → IsPossibleBy q a ss p before journal ps → IsRestAfter p journal

-- and no run to rest shows such a trace where it is impossible
abbrev pub ImpossibleHasNoRun : Type 0
ImpossibleHasNoRun =
    (q : RunQuestion) (a : TraceQuestion) (ss : List Name) (p : Program) (before more : List ℕ) (ps : List (ℕ × ℕ)) →
    a.goes_on ≡ false → IsImpossible q a ss p before → IsRestAfter p (before ++ more) → IsShownBy ps a (kept_in q ss p (before ++ more)) → ⊥

-- a prefix that is found begins its entry, and no entry begins with more of the messages
abbrev pub PrefixIsLongest : Type 0
PrefixIsLongest =
    (ms : List Tree) (es : List RestEntry) (n : ℕ) (f : Prefix) → longest_prefix ms es n ≡ Some f →
    (prefix_match ms es f.count ≡ Some f.by) × ((k : ℕ) → f.count < k → k ≤ n → prefix_match ms es k ≡ None)

-- so that no run does that is followed to its end, where the entries are complete
abbrev pub NoRunHasMore : Type 0
NoRunHasMore =
    (q : RunQuestion) (ms : List Tree) (ss : List Name) (p : Program) (before : List ℕ) (es : List RestEntry) (n : ℕ) →
    AreCompleteWithin (begins_trace ms) q ss p before es → prefix_match ms es n ≡ None → NoneBeginsWith q ms n ss p before
