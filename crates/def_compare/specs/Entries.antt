-- Which of some entries shows a trace, or the longest prefix of it (own).
-- Depends on entries, and on what it is to begin with messages.
use Rattle.std.specs.Prelude.{ℕ, zero, suc, List, [], ◌∷◌, ◌++◌, Option, Some, None, take}
use Rattle.def_term.specs.Tree.{Tree}
use Rattle.def_term.specs.Names.{Name}
use Rattle.def_script.specs.Program.{Program}
use Rattle.def_run.specs.Run.{moves}
use Rattle.def_explore.specs.Rests.{RunQuestion, KeptMessages, kept_in}
use Rattle.def_explore.specs.Answers.{RestEntry, IsJournalFrom}
use Rattle.def_explore.specs.RunsToEnd.{IsRunToEnd}
use Rattle.def_compare.specs.Traces.{TraceQuestion, IsPrefixBy, IsShownBy, begins_trace, prefix_pairs, shown_pairs}

-- a run that goes on from these picks, is followed as long as what is kept begins the trace, and shows the trace, with the partners of its pids
pub record IsPossibleBy (q : RunQuestion) (a : TraceQuestion) (ss : List Name) (p : Program) (before journal : List ℕ) (ps : List (ℕ × ℕ)) : Type 0 where
  pub from : IsJournalFrom p before journal
  pub ends : IsRunToEnd (begins_trace a.messages) q ss p (moves p before) from.more
  pub shows : IsShownBy ps a (kept_in q ss p journal)

-- no such run shows it, whichever partners its pids have
abbrev pub IsImpossible : RunQuestion → TraceQuestion → List Name → Program → List ℕ → Type 0
IsImpossible q a ss p before = (more : List ℕ) (ps : List (ℕ × ℕ)) → IsRunToEnd (begins_trace a.messages) q ss p before more → IsShownBy ps a (kept_in q ss p (before ++ more)) → ⊥

-- none begins with so many of the messages
abbrev pub NoneBeginsWith : RunQuestion → List Tree → ℕ → List Name → Program → List ℕ → Type 0
NoneBeginsWith q ms n ss p before = (more : List ℕ) (ps : List (ℕ × ℕ)) → IsRunToEnd (begins_trace ms) q ss p before more → IsPrefixBy ps (take n ms) (kept_in q ss p (before ++ more)) → ⊥

-- ---- by entries

-- an entry, with the partners of pids
pub record Match : Type 0 where
  pub entry : RestEntry
  pub pairs : List (ℕ × ℕ)

-- the entry with its partners; where it has none, another
abbrev pub match_or : RestEntry → Option (List (ℕ × ℕ)) → Option Match → Option Match
match_or e (Some ps) other = Some (record { entry = e; pairs = ps })
match_or e None other = other

-- the first of the entries that has partners
abbrev pub first_match : (KeptMessages → Option (List (ℕ × ℕ))) → List RestEntry → Option Match
first_match f [] = None
first_match f (e ∷ es) = match_or e (f e.kept) (first_match f es)

-- the first that shows the trace
abbrev pub possible_by : TraceQuestion → List RestEntry → Option Match
possible_by a es = first_match (shown_pairs a) es

-- the first that begins with so many of the messages
abbrev pub prefix_match : List Tree → List RestEntry → ℕ → Option Match
prefix_match ms es n = first_match (prefix_pairs (take n ms)) es

-- a number of messages, with an entry that begins with them
pub record Prefix : Type 0 where
  pub count : ℕ
  pub by : Match

-- so many with their entry; where there is none, another
abbrev pub prefix_or : ℕ → Option Match → Option Prefix → Option Prefix
prefix_or n (Some m) other = Some (record { count = n; by = m })
prefix_or n None other = other

-- of so many messages and fewer the greatest number with which an entry begins
abbrev pub longest_prefix : List Tree → List RestEntry → ℕ → Option Prefix
longest_prefix ms es zero = prefix_or 0 (prefix_match ms es 0) None
longest_prefix ms es (suc n) = prefix_or (suc n) (prefix_match ms es (suc n)) (longest_prefix ms es n)
