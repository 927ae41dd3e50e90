-- What a command leaves that explores all schedules of a reader's script.
use Rattle.std.proofs.Common.{◌≡◌, ◌∙◌, ◌⊎◌, inl, inr, ℕ, List, Option, Result, Ok, Err, IfOk, OnErr, refl, sym, ap, subst}
use Rattle.tn_text.specs.Watch.{watched_inner}
use Rattle.tn_text.specs.declared.watched.Watched.{Watched}
use Rattle.tn_run.specs.Jobs.{JobView, Meets}
use Rattle.tn_exploration.specs.declared.request.ExploreOutcome.{ExploreOutcome}
use Rattle.tn_exploration.specs.declared.request.ExploreOutcome.TheVariants.{Complete, Incomplete, Unmet, NoSession, Refused}
use Rattle.tn_command.specs.Explorations.{INCOMPLETE_STATUS, IsExplorationPrinted, IsExplorationStatus, search_status, status_after_search}
use Rattle.tn_command.specs.Status.{IsStatus, status_of}
use Rattle.tn_command.proofs.PrintLemmas.{at_fault}

-- the same of known bytes that are equal
pub explored_along : {F : Type 0} (job : JobView ExploreOutcome F) (bytes bytes' old old' new new' : Option (List ℕ)) (m : ℕ)
    → bytes ≡ bytes' → old ≡ old' → new ≡ new' → IsExplorationPrinted job bytes old new m → IsExplorationPrinted job bytes' old' new' m
explored_along job bytes bytes' old old' new new' m is_read is_old is_new h =
    subst (λ b. IsExplorationPrinted job b old' new' m) is_read
    (subst (λ o. IsExplorationPrinted job bytes o new' m) is_old (subst (λ n. IsExplorationPrinted job bytes old n m) is_new h))

pub prints_exploration : {R W F : Type 0} (job : JobView ExploreOutcome F) (known : R → Option (List ℕ)) (reader reader' : Watched R) (gained : W → Option (List ℕ)) (writer writer' : Watched W)
    (answer : Result ExploreOutcome F) (n k : ℕ) (s : Option ℕ) (m : ℕ) → n ≡ status_of job answer → k ≡ n → s ≡ search_status answer → m ≡ status_after_search k s
    → Meets job known reader reader' gained writer writer' answer
    → IsExplorationPrinted job (known (watched_inner reader)) (gained (watched_inner writer)) (gained (watched_inner writer')) m
prints_exploration job known reader reader' gained writer writer' answer n k s m is stays search after h = record {
  answer = answer;
  written = h.written;
  on_fault = at_fault job known reader reader' gained writer writer' answer h;
  status_is = after ∙ ap (λ i. status_after_search i s) (stays ∙ is) ∙ ap (status_after_search (status_of job answer)) search;
}

one_of_five : {F : Type 0} (answer : Result ExploreOutcome F) (k : ℕ) → IsStatus k → IsExplorationStatus (status_after_search k (search_status answer))
one_of_five (Ok Complete) k is = inl is
one_of_five (Ok Incomplete) k is = inr refl
one_of_five (Ok Unmet) k is = inl (inr (inr (inr refl)))
one_of_five (Ok NoSession) k is = inl is
one_of_five (Ok (Refused r)) k is = inl is
one_of_five (Err fault) k is = inl is

pub has_exploration_status : {F : Type 0} (answer : Result ExploreOutcome F) (n k : ℕ) (s : Option ℕ) (m : ℕ) → IsStatus n → k ≡ n → s ≡ search_status answer → m ≡ status_after_search k s → IsExplorationStatus m
has_exploration_status answer n k s m is stays search after =
    subst IsExplorationStatus (sym (after ∙ ap (status_after_search k) search)) (one_of_five answer k (subst IsStatus (sym stays) is))
