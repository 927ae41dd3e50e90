-- What two searches answer alike, and what two keep alike.
-- Depends on the answer of a search, and on what is kept of messages.
use Rattle.std.specs.Prelude.{IsTrue, IfSome, List, Option}
use Rattle.def_term.specs.Tree.{Tree}
use Rattle.def_explore.specs.Rests.{KeptMessages}
use Rattle.def_explore.specs.Laws.{HaveTheSame}
use Rattle.tn_explore.specs.declared.search.Exploration.{Exploration}
use Rattle.tn_explore.specs.Searches.{answer_entries}
use Rattle.tn_messages.specs.MessageViews.{AreByProcess}
use Rattle.tn_messages.specs.declared.messages_by_process.MessagesByProcess.{MessagesByProcess}

-- where both tried all states, each has the entries of the other
abbrev pub ExploreAlike : {A M : Type 0} → (M → KeptMessages) → Exploration A M → Exploration A M → Type 0
ExploreAlike Seen e f =
    IsTrue e.is_complete → IsTrue f.is_complete →
    HaveTheSame (answer_entries Seen e.answers.entries) (answer_entries Seen f.answers.entries) × HaveTheSame (answer_entries Seen f.answers.entries) (answer_entries Seen e.answers.entries)

-- where both answered, this is so of the answers
abbrev pub IfBoth : {X Y : Type 0} → Option X → Option Y → (X → Y → Type 0) → Type 0
IfBoth o r P = IfSome o (λ x. IfSome r (P x))

-- both keep these messages by process
pub record AreBothByProcess {A : Type 0} (ms : List Tree) (one other : MessagesByProcess A) : Type 0 where
  pub first : AreByProcess one ms
  pub second : AreByProcess other ms
