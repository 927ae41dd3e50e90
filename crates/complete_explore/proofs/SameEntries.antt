-- Two explorations that tried all states have the same entries.
use Rattle.std.proofs.Common.{◌≡◌, ℕ, Bool, List, sym, subst}
use Rattle.std.specs.Prelude.{IfSome, Option, Some, None}
use Rattle.def_script.specs.Program.{Program}
use Rattle.def_run.specs.Run.{moves}
use Rattle.def_explore.specs.Rests.{KeptMessages}
use Rattle.def_explore.proofs.SameEntries.{are_determined}
use Rattle.tn_explore.specs.declared.search.Exploration.{Exploration}
use Rattle.tn_explore.specs.Query.{Query}
use Rattle.tn_explore.specs.SearchStates.{FollowsAllBy}
use Rattle.tn_explore.specs.Searches.{Explores, answer_entries}
use Rattle.tn_messages.specs.MessageViews.{kept_seen}
use Rattle.tn_messages.specs.declared.kept_listings.KeptListings.{KeptListings}
use Rattle.tn_search.specs.States.{ExploresProgram, query_of}
use Rattle.complete_explore.specs.Explorations.{ExploreAlike, IfBoth}

-- those of the same question
module _ {A M : Type 0} (Seen : M → KeptMessages) (max_states : ℕ) (left : Bool) (a : Query) (e f : Exploration A M) where
  explore_alike : Explores left a (answer_entries Seen e.answers.entries) max_states e.states e.is_complete → Explores left a (answer_entries Seen f.answers.entries) max_states f.states f.is_complete → ExploreAlike Seen e f
  explore_alike x y all whole = (
    are_determined a.admits a.question a.sessions a.program a.before (answer_entries Seen e.answers.entries) (answer_entries Seen f.answers.entries) x.sound (x.shortest all) y.sound (y.shortest whole) (y.complete whole),
    are_determined a.admits a.question a.sessions a.program a.before (answer_entries Seen f.answers.entries) (answer_entries Seen e.answers.entries) y.sound (y.shortest whole) x.sound (x.shortest all) (x.complete all),
  )

module _ {A M S : Type 0} (Journal : S → List ℕ) (Seen : M → KeptMessages) (Admits : Query → Type 0) (max_states : ℕ) (left : Bool) where
  -- what the search promises
  abbrev pub Promises : (S → Query → Type 0) → S → Exploration A M → Type 0
  Promises IsOf s e = (a : Query) → IsOf s a → Admits a → FollowsAllBy left a → Journal s ≡ moves a.program a.before → Explores left a (answer_entries Seen e.answers.entries) max_states e.states e.is_complete

  -- what is said of two
  abbrev pub BothAlike : (S → Query → Type 0) → (S → Query → Type 0) → S → S → Exploration A M → Exploration A M → Type 0
  BothAlike IsOne IsOther one other e f = (a : Query) → IsOne one a → IsOther other a → Admits a → FollowsAllBy left a → Journal one ≡ moves a.program a.before → Journal other ≡ moves a.program a.before → ExploreAlike Seen e f

  pub both_alike : (IsOne IsOther : S → Query → Type 0) (one other : S) (e f : Exploration A M) → Promises IsOne one e → Promises IsOther other f → BothAlike IsOne IsOther one other e f
  both_alike IsOne IsOther one other e f h k a is_one is_other admits whole first second = explore_alike Seen max_states left a e f (h a is_one admits whole first) (k a is_other admits whole second)

  -- of two that may have no answer
  pub both_if_both : (IsOne IsOther : S → Query → Type 0) (one other : S) (o r : Option (Exploration A M)) → IfSome o (Promises IsOne one) → IfSome r (Promises IsOther other) → IfBoth o r (BothAlike IsOne IsOther one other)
  both_if_both IsOne IsOther one other None r h k = tt
  both_if_both IsOne IsOther one other (Some e) None h k = tt
  both_if_both IsOne IsOther one other (Some e) (Some f) h k = both_alike IsOne IsOther one other e f h k

-- those of equal programs
pub programs_alike : {A : Type 0} (left : Bool) (admits : KeptMessages → Bool) (b : Bool) (p q : Program) (before places : List ℕ) (max_states : ℕ) (e f : Exploration A (KeptListings A)) → p ≡ q → ExploresProgram left admits b p before places max_states e → ExploresProgram left admits b q before places max_states f → ExploreAlike kept_seen e f
programs_alike left admits b p q before places max_states e f same h k =
    explore_alike kept_seen max_states left (query_of admits b p before places) e f h (subst (λ r. ExploresProgram left admits b r before places max_states f) (sym same) k)
