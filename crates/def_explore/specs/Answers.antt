-- What an exploration answers: entries with journals (own).
-- Depends on runs to rest, and on what is kept in them.
use Rattle.std.specs.Prelude.{◌≡◌, ◌<◌, ◌≤◌, ℕ, List, [], ◌∷◌, ◌++◌, length}
use Rattle.def_term.specs.Names.{Name}
use Rattle.def_script.specs.Program.{Program}
use Rattle.def_run.specs.Run.{JOURNAL, moves}
use Rattle.def_explore.specs.Lists.{OneOf, EachOf}
use Rattle.def_explore.specs.Rests.{IsRestAfter, RunQuestion, KeptMessages, kept_in}

-- the journal goes on from the moves of the first picks, and each of its picks moves
pub record IsJournalFrom (p : Program) (before journal : List ℕ) : Type 0 where
  pub more : List ℕ
  pub goes_on : journal ≡ moves p before ++ more
  pub moved : moves p journal ≡ journal

-- ---- entries

-- what is kept of a run to rest, and a journal that gives it
pub record RestEntry : Type 0 where
  pub kept : KeptMessages
  pub journal : List ℕ

-- nothing moves after the entry's journal, which goes on from the first picks, and that is kept of it
pub record IsRestEntry (q : RunQuestion) (ss : List Name) (p : Program) (before : List ℕ) (e : RestEntry) : Type 0 where
  pub from : IsJournalFrom p before e.journal
  pub rests : IsRestAfter p e.journal
  pub keeps : kept_in q ss p e.journal ≡ e.kept

-- it is what is kept of the run by these picks
abbrev pub IsEntryFor : RunQuestion → List Name → Program → List ℕ → RestEntry → Type 0
IsEntryFor q ss p picks e = e.kept ≡ kept_in q ss p picks

-- each entry is of a run to rest that goes on from these picks
abbrev pub AreSound : RunQuestion → List Name → Program → List ℕ → List RestEntry → Type 0
AreSound q ss p before es = EachOf (IsRestEntry q ss p before) es

-- and each such run has its entry
abbrev pub AreComplete : RunQuestion → List Name → Program → List ℕ → List RestEntry → Type 0
AreComplete q ss p before es = (more : List ℕ) → IsRestAfter p (before ++ more) → OneOf (IsEntryFor q ss p (before ++ more)) es

-- each such run has its entry that didn't meet the journal's limit
abbrev pub AreCompleteBelow : RunQuestion → List Name → Program → List ℕ → List RestEntry → Type 0
AreCompleteBelow q ss p before es = (more : List ℕ) → IsRestAfter p (before ++ more) → length (moves p (before ++ more)) < JOURNAL → OneOf (IsEntryFor q ss p (before ++ more)) es

-- no run to rest of which the same is kept has fewer moves than the entry's journal
abbrev pub IsNoLonger : RunQuestion → List Name → Program → List ℕ → RestEntry → Type 0
IsNoLonger q ss p picks e = IsEntryFor q ss p picks e → length e.journal ≤ length (moves p picks)

-- of each entry
abbrev pub AreShortest : RunQuestion → List Name → Program → List ℕ → List RestEntry → Type 0
AreShortest q ss p before es = (more : List ℕ) → IsRestAfter p (before ++ more) → EachOf (IsNoLonger q ss p (before ++ more)) es

-- no two entries keep the same
abbrev pub AreDistinct : List RestEntry → Type 0
AreDistinct [] = Unit {0}
AreDistinct (e ∷ es) = EachOf (λ f. e.kept ≡ f.kept → ⊥) es × AreDistinct es
