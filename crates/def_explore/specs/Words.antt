-- Whether all runs to rest show a message that matches a pattern, none does, or some do (own).
-- Depends on entries, and on what it is to match a pattern ("Match Specifications in Erlang", "Grammar").
use Rattle.std.specs.Prelude.{◌≡◌, ◌&&◌, ◌||◌, not, ℕ, Bool, true, false, if◌then◌else◌, List, [], ◌∷◌, ◌++◌, Option, Some, None, is_some}
use Rattle.std.specs.List.{list_any}
use Rattle.def_term.specs.Tree.{Tree}
use Rattle.def_term.specs.Names.{Name}
use Rattle.def_spec.specs.Matching.{Pattern, bindings_of}
use Rattle.def_script.specs.Program.{Program}
use Rattle.def_explore.specs.Rests.{IsRestAfter, RunQuestion, KeptMessages, kept_messages, kept_by_process, kept_in}
use Rattle.def_explore.specs.Answers.{RestEntry, IsJournalFrom}

-- ---- one pattern

-- the message matches the pattern
abbrev pub is_match : Pattern → Tree → Bool
is_match a t = is_some (bindings_of a t)

-- one of the messages that are kept does
abbrev pub shows : Pattern → KeptMessages → Bool
shows a (kept_messages mss) = list_any (list_any (is_match a)) mss
shows a (kept_by_process psss) = list_any (list_any (list_any (is_match a))) psss

-- every run to rest shows a match, with the journal of one; none does; or some do, with the journal of one that does and of one that doesn't
pub data Word : Type 0 where
  always : (shown : List ℕ) → Word
  never : (missed : List ℕ) → Word
  sometimes : (shown missed : List ℕ) → Word

-- a run to rest that goes on from these picks, and shows a match or doesn't
pub record IsWitness (q : RunQuestion) (a : Pattern) (ss : List Name) (p : Program) (before : List ℕ) (b : Bool) (journal : List ℕ) : Type 0 where
  pub from : IsJournalFrom p before journal
  pub rests : IsRestAfter p journal
  pub does : shows a (kept_in q ss p journal) ≡ b

-- all do it, or none does
abbrev pub AllShow : RunQuestion → Pattern → List Name → Program → List ℕ → Bool → Type 0
AllShow q a ss p before b = (more : List ℕ) → IsRestAfter p (before ++ more) → shows a (kept_in q ss p (before ++ more)) ≡ b

-- the word is true
abbrev pub IsTrueWord : RunQuestion → Pattern → List Name → Program → List ℕ → Word → Type 0
IsTrueWord q a ss p before (always shown) = IsWitness q a ss p before true shown × AllShow q a ss p before true
IsTrueWord q a ss p before (never missed) = IsWitness q a ss p before false missed × AllShow q a ss p before false
IsTrueWord q a ss p before (sometimes shown missed) = IsWitness q a ss p before true shown × IsWitness q a ss p before false missed

-- ---- by entries

-- the journal of the first of the entries that shows a match
abbrev pub shown_by : Pattern → List RestEntry → Option (List ℕ)
shown_by a [] = None
shown_by a (e ∷ es) = if shows a e.kept then Some e.journal else shown_by a es

-- of the first that shows none
abbrev pub missed_by : Pattern → List RestEntry → Option (List ℕ)
missed_by a [] = None
missed_by a (e ∷ es) = if shows a e.kept then missed_by a es else Some e.journal

-- the word, by the two journals and whether all states were tried; there is none where a run that wasn't tried can be of the other kind
abbrev pub word_by : (shown missed : Option (List ℕ)) → (whole : Bool) → Option Word
word_by (Some shown) (Some missed) whole = Some (sometimes shown missed)
word_by (Some shown) None true = Some (always shown)
word_by None (Some missed) true = Some (never missed)
word_by shown missed whole = None

-- that the entries give
abbrev pub word_of : Pattern → List RestEntry → Bool → Option Word
word_of a es whole = word_by (shown_by a es) (missed_by a es) whole

-- ---- demands

-- what is demanded of a pattern: nothing, or one word
pub data Demand : Type 0 where
  any_word : Demand
  only_always : Demand
  only_never : Demand
  only_sometimes : Demand

-- the word is as demanded
abbrev pub meets : Demand → Word → Bool
meets any_word word = true
meets only_always (always j) = true
meets only_never (never j) = true
meets only_sometimes (sometimes j k) = true
meets _ _ = false

-- the two journals refute it: there is one where it isn't so, or all states were tried and there is none where it is so
abbrev pub is_refuted : Demand → (shown missed : Option (List ℕ)) → (whole : Bool) → Bool
is_refuted any_word shown missed whole = false
is_refuted only_always shown missed whole = is_some missed || (whole && not (is_some shown))
is_refuted only_never shown missed whole = is_some shown || (whole && not (is_some missed))
is_refuted only_sometimes shown missed whole = whole && not (is_some shown && is_some missed)

-- a pattern that is asked about, as a term, and what is demanded of it
pub record PatternQuestion : Type 0 where
  pub term : Tree
  pub pattern : Pattern
  pub demand : Demand

-- the entries refute what is demanded of it
abbrev pub refutes : List RestEntry → (whole : Bool) → PatternQuestion → Bool
refutes es whole a = is_refuted a.demand (shown_by a.pattern es) (missed_by a.pattern es) whole
