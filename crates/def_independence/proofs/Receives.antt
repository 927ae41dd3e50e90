-- A receive that takes a message is independent of all other picks.
use Rattle.std.proofs.Common.{◌≡◌, ◌<◌, ◌-◌, ℕ, zero, suc, List, [], ◌∷◌, ◌++◌, length, Bool, true, false, not, cond, slice_get, Option, Some, None, refl, sym, ap, ◌∙◌, subst, append-nil}
use Rattle.std.specs.Prelude.{nat_le, filter}
use Rattle.def_term.specs.Tree.{Tree}
use Rattle.def_term.specs.Names.{Name}
use Rattle.def_script.specs.Program.{Step, receive, Function, Entry, Program}
use Rattle.def_script.specs.Exports.{exports_of}
use Rattle.def_node.specs.Event.{Event}
use Rattle.def_node.specs.Process.{Process, Frame, Act, continues, with_frames, receives, performs, runs_in, runs, begins, act_after, act}
use Rattle.def_node.specs.Node.{World, next_pid}
use Rattle.def_session.specs.State.{absent_session}
use Rattle.def_outlook.specs.Outlook.{has_no_message, upcoming_in, upcoming_of, upcoming_first, upcoming_after, living_at, process_with}
use Rattle.def_run.specs.Run.{RunState, PickStep, pick_step, start, run_state_of, events, moves}
use Rattle.def_run.specs.View.{is_own}
use Rattle.def_run.specs.Listing.{messages_from}
use Rattle.def_run.proofs.Appends.{shown-append, place-append}
use Rattle.def_explore.specs.Rests.{RunQuestion, kept_of}
use Rattle.def_explore.specs.Alike.{IsStateAlike}
use Rattle.def_explore.proofs.Alike.{by_events}
use Rattle.def_independence.specs.Alone.{have_link, takes_by, takes_with, takes_message, one_takes, is_alone}
use Rattle.def_independence.specs.Laws.{ReceivesAreIndependent, ReceivesGoAlone}
use Rattle.def_independence.proofs.Acts.{AreOwn, grow, Does, act_does}
use Rattle.def_independence.proofs.Worlds.{Ready}
use Rattle.def_independence.proofs.Runs.{run_unlinked, room_left, Crossing, own_step, crossing}
use Rattle.def_independence.proofs.Picks.{fewer, IsApartFromEach, from_all}

-- ---- the act of a receive

-- it goes on without an event
abbrev Takes : Act → Type 0
Takes a = (u : Process) × (a ≡ continues u [])

receives_takes : (q : Process) (f : Frame) (fs : List Frame) (x : Option Name) (ts : List Tree) → not (has_no_message ts) ≡ true → Takes (receives q f fs x ts)
receives_takes q f fs x [] h = cc
receives_takes q f fs x (t ∷ ts) h = (_, refl)

module _ (ks : List Function) (n : ℕ) (c : Option ℕ) where
  performs_takes : (q : Process) (k : Function) (f : Frame) (fs : List Frame) (s : Option Step) → takes_by q.mailbox s ≡ true → Takes (performs ks n c q k f fs s)
  performs_takes q k f fs (Some (receive x)) h = receives_takes q f fs x q.mailbox h
  performs_takes q k f fs s h = cc

  runs_in_takes : (q : Process) (f : Frame) (fs : List Frame) (count : ℕ) (k : Option Function) → takes_with q.mailbox (upcoming_in f count k) ≡ true → Takes (runs_in ks n c q f fs k)
  runs_in_takes q f fs count None h = cc
  runs_in_takes q f fs count (Some k) h = performs_takes q k f fs (slice_get k.steps f.place) h

  runs_takes : (q : Process) (fs : List Frame) → takes_with q.mailbox (upcoming_of ks fs) ≡ true → Takes (runs ks n c q fs)
  runs_takes q [] h = cc
  runs_takes q (f ∷ fs) h = runs_in_takes (with_frames q fs) f fs (suc (length fs)) (slice_get ks f.function) h

  begins_takes : (q : Process) (e : Option Entry) → takes_with q.mailbox (upcoming_first ks q.frames e) ≡ true → Takes (begins ks n c q e)
  begins_takes q (Some e) h = cc
  begins_takes q None h = runs_takes q q.frames h

  after_takes : (q : Process) (s : Option Tree) → takes_with q.mailbox (upcoming_after ks q.frames q.entry s) ≡ true → Takes (act_after ks n c q s)
  after_takes q (Some r) h = cc
  after_takes q None h = begins_takes q q.entry h

  act_takes : (q : Process) → takes_message ks q ≡ true → Takes (act ks n c q)
  act_takes q h = after_takes q q.signal h

-- ---- the process that a pick is of

present_at : (s : Option (Option Process)) (q : Process) → living_at s ≡ Some q → s ≡ Some (Some q)
present_at None q h = absurd (let k : None ≡ Some q = h in cc)
present_at (Some o) q h = ap Some h

present_if : (b : Bool) (s : Option (Option Process)) (q : Process) → cond b (living_at s) None ≡ Some q → (b ≡ true) × (s ≡ Some (Some q))
present_if true s q h = (refl, present_at s q h)
present_if false s q h = absurd (let k : None ≡ Some q = h in cc)

pub present : (w : World) (n : ℕ) (q : Process) → process_with w n ≡ Some q → (nat_le 100 n ≡ true) × (slice_get w.slots (n - 100) ≡ Some (Some q))
present w n q h = present_if (nat_le 100 n) (slice_get w.slots (n - 100)) q h

-- one whose act goes on alone does so whatever comes into its mailbox
pub ready_by : (ks : List Function) → have_link ks ≡ false → (w : World) (n : ℕ) (q u : Process) (es : List Event) → slice_get w.slots (n - 100) ≡ Some (Some q) → act ks n (next_pid w) q ≡ continues u es
    → Ready ks n es w
ready_by ks none w n q u es here is = record {
  before = q;
  after = u;
  here = here;
  goes = λ c xs. (subst (λ a. Does n xs a (act ks n c (grow xs q))) is (act_does n xs ks (next_pid w) c q none)).0;
}

-- and its events are its own
pub own_by : (ks : List Function) → have_link ks ≡ false → (n : ℕ) (c : Option ℕ) (q u : Process) (es : List Event) → act ks n c q ≡ continues u es → AreOwn n es
own_by ks none n c q u es is = (subst (λ a. Does n [] a (act ks n c (grow [] q))) is (act_does n [] ks c c q none)).1

one_takes_of : (ks : List Function) (o : Option Process) → one_takes ks o ≡ true → (q : Process) × (o ≡ Some q) × (takes_message ks q ≡ true)
one_takes_of ks None h = cc
one_takes_of ks (Some q) h = (q, refl, h)

-- ---- a state of a run from which it is ready

-- the state that one more pick leads to
pub pick_place : (p : Program) (j : List ℕ) (o : ℕ) → run_state_of p (j ++ o ∷ []) ≡ (pick_step p.functions (run_state_of p j) o).after
pick_place p j o = place-append p.functions (start p) j (o ∷ [])

module _ (p : Program) (none : have_link p.functions ≡ false) (n : ℕ) (big : nat_le 100 (suc n) ≡ true) (es : List Event) where
  abbrev pub ReadyAfter : List ℕ → Type 0
  ReadyAfter j = Ready p.functions (suc n) es (run_state_of p j).world

  pub ready_moves : (j : List ℕ) → ReadyAfter j → length (moves p j) < 65536 → (pick_step p.functions (run_state_of p j) (suc n)).moved ≡ true
  ready_moves j r few =
      let left : (room : ℕ) × ((run_state_of p j).room ≡ suc room) = room_left p j few in
      ap (λ (s : PickStep). s.moved) (own_step p.functions none n big es (run_state_of p j) r left.0 left.1)

  pub ready_crosses : (j : List ℕ) (o : ℕ) → ReadyAfter j → (o ≡ suc n → ⊥) → length (moves p (j ++ o ∷ [])) < 65536 → Crossing p.functions (suc n) es (run_state_of p j) o
  ready_crosses j o r other few =
      let left : (room : ℕ) × ((run_state_of p j).room ≡ suc room) = room_left p j (fewer p j (o ∷ []) few) in
      let more : (room : ℕ) × ((run_state_of p (j ++ o ∷ [])).room ≡ suc room) = room_left p (j ++ o ∷ []) few in
      crossing p.functions none n big es (run_state_of p j) r left.0 more.0 o left.1 other (run_unlinked p none j) (ap (λ (x : RunState). x.room) (sym (pick_place p j o)) ∙ more.1)

  pub ready_kept : (j : List ℕ) (o : ℕ) → ReadyAfter j → (o ≡ suc n → ⊥) → length (moves p (j ++ o ∷ [])) < 65536 → ReadyAfter (j ++ o ∷ [])
  ready_kept j o r other few = subst (λ (x : RunState). Ready p.functions (suc n) es x.world) (sym (pick_place p j o)) (ready_crosses j o r other few).ready

  pub ready_place : (j : List ℕ) (o : ℕ) → Crossing p.functions (suc n) es (run_state_of p j) o → run_state_of p (j ++ o ∷ suc n ∷ []) ≡ run_state_of p (j ++ suc n ∷ o ∷ [])
  ready_place j o x = place-append p.functions (start p) j (o ∷ suc n ∷ []) ∙ x.place ∙ sym (place-append p.functions (start p) j (suc n ∷ o ∷ []))

-- ---- a move without events

module _ (q : RunQuestion) (ss : List Name) (p : Program) (none : have_link p.functions ≡ false) (n : ℕ) (big : nat_le 100 (suc n) ≡ true) where
  silent_alike : (j : List ℕ) (o : ℕ) → Crossing p.functions (suc n) [] (run_state_of p j) o → IsStateAlike q ss p (j ++ o ∷ suc n ∷ []) (j ++ suc n ∷ o ∷ [])
  silent_alike j o x =
      let shown : events p (j ++ o ∷ suc n ∷ []) ≡ events p (j ++ suc n ∷ o ∷ []) =
      shown-append p.functions (start p) j (o ∷ suc n ∷ [])
      ∙ ap (λ xs. events p j ++ xs) (x.first ∙ append-nil (pick_step p.functions (run_state_of p j) o).shown ∙ sym x.second)
      ∙ sym (shown-append p.functions (start p) j (suc n ∷ o ∷ [])) in
      record {
        place = ready_place p none n big [] j o x;
        sessions = by_events q ss p ss (j ++ o ∷ suc n ∷ []) (j ++ suc n ∷ o ∷ []) shown;
        kept = λ i. kept_of q ss (λ s. messages_from (exports_of p) (absent_session (exports_of p)) (filter (is_own s) (shown i)));
      }

  pub silent_apart : IsApartFromEach q ss p (suc n) (ReadyAfter p none n big [])
  silent_apart = record {
    moving = λ j r few. ready_moves p none n big [] j r few;
    kept = λ j o r other few. ready_kept p none n big [] j o r other few;
    alike = λ j o r other few. silent_alike j o (ready_crosses p none n big [] j o r other few);
  }

pub receives_independent : ReceivesAreIndependent
receives_independent q ss p j zero none h = absurd (let x : false ≡ true = h in cc)
receives_independent q ss p j (suc n) none h =
    let w : World = (run_state_of p j).world in
    let one : (r : Process) × (process_with w (suc n) ≡ Some r) × (takes_message p.functions r ≡ true) = one_takes_of p.functions (process_with w (suc n)) h in
    let there : (nat_le 100 (suc n) ≡ true) × (slice_get w.slots (suc n - 100) ≡ Some (Some one.0)) = present w (suc n) one.0 one.1 in
    let takes : (u : Process) × (act p.functions (suc n) (next_pid w) one.0 ≡ continues u []) = act_takes p.functions (suc n) (next_pid w) one.0 one.2 in
    from_all q ss p (suc n) (ReadyAfter p none n there.0 []) (silent_apart q ss p none n there.0) j (ready_by p.functions none w (suc n) one.0 takes.0 [] there.1 takes.1)

pub receives_go_alone : ReceivesGoAlone
receives_go_alone ks n child q h = ap is_alone (act_takes ks n child q h).1
