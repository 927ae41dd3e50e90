-- What finds the message of a number: one more pick, and all picks.
use Rattle.std.proofs.Common.{◌≡◌, ◌∙◌, ◌<◌, ◌≤◌, ℕ, Some, None, List, [], ◌∷◌, ◌++◌, length, sym, ap, ap₂, subst, arith}
use Rattle.std.specs.Prelude.{filter}
use Rattle.def_term.specs.Names.{Name}
use Rattle.def_script.specs.Program.{Program}
use Rattle.def_script.specs.Exports.{exports_of}
use Rattle.def_session.specs.State.{absent_session}
use Rattle.def_run.specs.Run.{HistoryItem, moves}
use Rattle.def_run.specs.View.{is_own}
use Rattle.def_run.specs.Listing.{messages, messages_from}
use Rattle.def_run.proofs.Replay.{events_again}
use Rattle.def_message_choice.specs.MessageNumbers.{move_after}
use Rattle.tn_trace.specs.Observers.{IsNextMove, SeesMove}
use Rattle.tn_trace.specs.Follows.{AddsEach, AddsFrom}
use Rattle.tn_trace.specs.Recorders.{HasRecorded}
use Rattle.tn_trace.specs.declared.journal.JournalEntry.{JournalEntry}
use Rattle.tn_trace.specs.declared.recorder.Recorder.{Recorder}
use Rattle.tn_message_choice.specs.Counts.{MOST, IsCountUpTo, AreSoMany, sent_in, IsMessageCount}
use Rattle.tn_message_choice.specs.Finders.{HasFound, NotesMove, AsksTheSame}
use Rattle.tn_message_choice.specs.declared.count.Count.{Count}
use Rattle.tn_message_choice.specs.declared.finder.MessageFinder.{MessageFinder}
use Rattle.tn_message_choice.proofs.MessageCounts.{recorded_count, found_more}

-- the move was recorded, and then noted
pub found_move : {A G : Type 0} (p : Program) (picks : List ℕ) (entry : JournalEntry) (shown : List HistoryItem) (old mid new : MessageFinder A) (out out' : G) → IsNextMove p picks entry shown → HasFound old p picks
    → HasRecorded AreSoMany mid.recorder p (picks ++ entry.pick ∷ []) → mid ≡ record old { recorder = mid.recorder } → NotesMove entry.number mid new → new ≡ record mid { found = new.found }
    → SeesMove HasFound AsksTheSame p picks entry.pick old new out out'
found_move p picks entry shown old mid new out out' next seen recorded before noted others =
    let later : List ℕ = picks ++ entry.pick ∷ [] in
    let session : new.session ≡ mid.session = ap (λ (f : MessageFinder _). f.session) others in
    let number : new.number ≡ mid.number = ap (λ (f : MessageFinder _). f.number) others in
    let session_then : mid.session ≡ old.session = ap (λ (f : MessageFinder _). f.session) before in
    let number_then : mid.number ≡ old.number = ap (λ (f : MessageFinder _). f.number) before in
    let found : mid.found ≡ move_after mid.session.now mid.number p [] picks =
    ap (λ (f : MessageFinder _). f.found) before ∙ seen.found ∙ ap₂ (λ s k. move_after s.now k p [] picks) (sym session_then) (sym number_then) in
    record {
      after = record {
        recorded = subst (λ r. HasRecorded AreSoMany r p later) (sym (ap (λ (f : MessageFinder _). f.recorder) others)) recorded;
        found = found_more mid.session.now mid.number p entry.pick picks entry.number _ mid.found new.found found noted next.numbered (recorded_count mid.recorder p later mid.session.now recorded)
            ∙ ap₂ (λ s k. move_after s.now k p [] later) (sym session) (sym number);
      };
      added = (session ∙ session_then, number ∙ number_then);
    }

-- the same is asked for at the end
pub asks_the_same : {A G : Type 0} (p : Program) (more first : List ℕ) (old new : MessageFinder A) (out out' : G) → AddsEach AsksTheSame p first more old new out out' → (new.session ≡ old.session) × (new.number ≡ old.number)
asks_the_same p [] first old new out out' h = (ap (λ (f : MessageFinder _). f.session) h.0, ap (λ (f : MessageFinder _). f.number) h.0)
asks_the_same p (pick ∷ more) first old new out out' h =
    let rest = asks_the_same p more (first ++ pick ∷ []) h.0 new h.1 out' h.3 in
    (rest.0 ∙ h.2.0, rest.1 ∙ h.2.1)

-- so it is after a run
pub asked_alike : {A G : Type 0} (p : Program) (picks : List ℕ) (old new : MessageFinder A) (out out' : G) → AddsFrom AsksTheSame p [] picks old new out out' → (new.session ≡ old.session) × (new.number ≡ old.number)
asked_alike p picks old new out out' h = asks_the_same p h.more [] old new out out' h.added

-- ---- how many messages there are

module _ {A : Type 0} (r : Recorder A Count) (p : Program) (picks : List ℕ) (n : Name) (sent : ℕ) (seen : HasRecorded AreSoMany r p (moves p picks)) (counted : sent ≡ sent_in n r.slots.items) where
  -- those of the moves are those of the picks
  count_of_run : IsCountUpTo (length (messages n p picks)) sent
  count_of_run =
      let of_moves : length (messages n p (moves p picks)) ≡ length (messages n p picks) = ap (λ items. length (messages_from (exports_of p) (absent_session (exports_of p)) (filter (is_own n) items))) (events_again p picks) in
      subst (λ m. IsCountUpTo m sent) of_moves (subst (IsCountUpTo (length (messages n p (moves p picks)))) (sym counted) (recorded_count r p (moves p picks) n seen))

  pub count_there : sent < MOST → IsMessageCount n p picks (Some sent)
  count_there below = (below, count_of_run.1 below)

  pub count_past : MOST ≤ sent → IsMessageCount n p picks None
  count_past past = omega (arith, past, count_of_run.0)
