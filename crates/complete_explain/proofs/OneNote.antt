-- A run has one note.
use Rattle.std.proofs.Common.{◌≡◌, ◌∙◌, ◌⊎◌, ℕ, Bool, true, false, List, flat_map, Option, Some, None, Result, Ok, Err, IfOk, refl, sym, ap, ap₂, subst}
use Rattle.std.specs.Option.{option_map}
use Rattle.def_script.specs.Program.{Program}
use Rattle.def_script.proofs.OneScript.{one_program}
use Rattle.def_running_node.specs.NodeNotes as definition
use Rattle.def_running_node.specs.NodeNotes.{node_note}
use Rattle.def_explain.specs.Remarks.{Remark, remarks, has_remarks}
use Rattle.tn_moves.specs.Schedules.{ScheduleView, schedule_seen, ArePicks, HasPicks, OfPicks}
use Rattle.tn_run.specs.Answers.{run_for}
use Rattle.tn_run.specs.Jobs.{Gives, OfScript}
use Rattle.tn_replay.specs.Notes.{note_seen, AreNotes, AreNotesWanted, replay_by, run_outcome}
use Rattle.tn_replay.proofs.NodeNotes.{replay_is_run}
use Rattle.tn_replay.specs.declared.note.NodeNote.{NodeNote}
use Rattle.tn_replay.specs.declared.note.RunNotes.{RunNotes}
use Rattle.tn_replay.specs.declared.replay.Replay.{Replay}
use Rattle.tn_replay.specs.declared.replay.ReplayOutcome.{ReplayOutcome}
use Rattle.tn_replay.specs.declared.replay.ReplayOutcome.TheVariants.{Listed, Refused}
use Rattle.def_explain.specs.CommandPlaces.{before_form, command_starts}
use Rattle.tn_refusal.specs.Starts.{IsListable}
use Rattle.tn_replay.specs.RemarkLines.{remark_line, AreRemarkLines}
use Rattle.complete_workers.proofs.OneRun.{one_picks, one_run, reads_or_not}

-- the code's note that stands for a note
abbrev note_back : definition.NodeNote → NodeNote
note_back n = record { differing = n.differing; moves = n.moves }

back_is : (n : Option NodeNote) → option_map note_back (option_map note_seen n) ≡ n
back_is None = refl
back_is (Some n) = refl

-- two that stand for one are one
pub same_note : (n m : Option NodeNote) (k : Option definition.NodeNote) → option_map note_seen n ≡ k → option_map note_seen m ≡ k → n ≡ m
same_note n m k h i = sym (back_is n) ∙ ap (option_map note_back) (h ∙ sym i) ∙ back_is m

-- the notes of a run by these picks are one
pub same_notes : (p : Program) (picks : List ℕ) (n m : RunNotes) → AreNotes p picks n → AreNotes p picks m → n ≡ m
same_notes p picks n m h i = ap₂ (λ b c. record { node = b; has_remarks = c }) (same_note n.node m.node (node_note p picks) h.node i.node) (h.remarks ∙ sym i.remarks)

notes_wanted : (has_notes : Bool) (p : Program) (picks : List ℕ) (n m : Option RunNotes) → AreNotesWanted has_notes p picks n → AreNotesWanted has_notes p picks m → n ≡ m
notes_wanted false p picks n m h i = h ∙ sym i
notes_wanted true p picks None m h i = absurd h
notes_wanted true p picks (Some n) None h i = absurd i
notes_wanted true p picks (Some n) (Some m) h i = ap Some (same_notes p picks n m h i)

-- of the same text
pub of_one_text : (bytes picks : List ℕ) (n m : Option NodeNote) → OfScript bytes (λ p. option_map note_seen n ≡ node_note p picks) → OfScript bytes (λ p. option_map note_seen m ≡ node_note p picks) → n ≡ m
of_one_text bytes picks n m h i =
    same_note n m (node_note h.program picks) h.output (i.output ∙ ap (λ p. node_note p picks) (one_program bytes i.program h.program i.accepted h.accepted))

-- and so of what is remarked
pub remarked_of_one_text : (bytes picks : List ℕ) (b c : Bool) → OfScript bytes (λ p. b ≡ has_remarks p picks) → OfScript bytes (λ p. c ≡ has_remarks p picks) → b ≡ c
remarked_of_one_text bytes picks b c h i = h.output ∙ sym (i.output ∙ ap (λ p. has_remarks p picks) (one_program bytes i.program h.program i.accepted h.accepted))

pub lines_of_one_text : (name bytes : List ℕ) (rs : Program → List Remark) (v w : List ℕ) → OfScript bytes (λ p. AreRemarkLines name bytes (rs p) v) → OfScript bytes (λ p. AreRemarkLines name bytes (rs p) w) → IsListable bytes → v ≡ w
lines_of_one_text name bytes rs v w h i l =
    h.output l ∙ sym (i.output l ∙ ap (λ p. flat_map (remark_line name bytes (command_starts before_form l.tokens)) (rs p)) (one_program bytes i.program h.program i.accepted h.accepted))

-- of the run by one schedule
module _ (bytes : List ℕ) (a : ScheduleView) (P Q : Program → List ℕ → Type 0) (h : OfScript bytes (λ p. OfPicks a p (P p))) (i : OfScript bytes (λ p. OfPicks a p (Q p))) where
  one_of_both : i.program ≡ h.program
  one_of_both = one_program bytes i.program h.program i.accepted h.accepted

  picks_of_both : i.output.picks ≡ h.output.picks
  picks_of_both = one_picks a h.program i.output.picks h.output.picks (subst (λ p. ArePicks a p i.output.picks) one_of_both i.output.given) h.output.given

pub remarked_of_one_schedule : (bytes : List ℕ) (a : ScheduleView) (b c : Bool) → OfScript bytes (λ p. OfPicks a p (λ picks. b ≡ has_remarks p picks)) → OfScript bytes (λ p. OfPicks a p (λ picks. c ≡ has_remarks p picks)) → b ≡ c
remarked_of_one_schedule bytes a b c h i =
    h.output.so
    ∙ sym (i.output.so ∙ ap₂ has_remarks (one_of_both bytes a (λ p picks. b ≡ has_remarks p picks) (λ p picks. c ≡ has_remarks p picks) h i) (picks_of_both bytes a (λ p picks. b ≡ has_remarks p picks) (λ p picks. c ≡ has_remarks p picks) h i))

pub lines_of_one_schedule : (name bytes : List ℕ) (a : ScheduleView) (v w : List ℕ) → OfScript bytes (λ p. OfPicks a p (λ picks. AreRemarkLines name bytes (remarks p picks) v)) → OfScript bytes (λ p. OfPicks a p (λ picks. AreRemarkLines name bytes (remarks p picks) w)) → IsListable bytes → v ≡ w
lines_of_one_schedule name bytes a v w h i l =
    h.output.so l
    ∙ sym (i.output.so l ∙ ap₂ (λ p picks. flat_map (remark_line name bytes (command_starts before_form l.tokens)) (remarks p picks))
    (one_of_both bytes a (λ p picks. AreRemarkLines name bytes (remarks p picks) v) (λ p picks. AreRemarkLines name bytes (remarks p picks) w) h i)
    (picks_of_both bytes a (λ p picks. AreRemarkLines name bytes (remarks p picks) v) (λ p picks. AreRemarkLines name bytes (remarks p picks) w) h i))

pub if_both : {X Y E F : Type 0} (r : Result X E) (q : Result Y F) (P : X → Type 0) (Q : Y → Type 0) (R : X → Y → Type 0) → ((x : X) (y : Y) → P x → Q y → R x y) → IfOk r P → IfOk q Q → IfOk r (λ x. IfOk q (λ y. R x y))
if_both (Ok x) (Ok y) P Q R h i j = h x y i j
if_both (Ok x) (Err e) P Q R h i j = tt
if_both (Err d) q P Q R h i j = tt

-- ---- the job

module _ (bytes : List ℕ) (q : Replay) where
  abbrev view : ScheduleView
  view = schedule_seen q.schedule

  -- its run
  run_given : (o : ReplayOutcome) (x : List ℕ) → Gives (replay_by q) bytes o x → Gives (run_for view) bytes (run_outcome o) x
  run_given o x h = replay_is_run q bytes o x h

  same_outcome : (o u : ReplayOutcome) (x y : List ℕ) → Gives (replay_by q) bytes o x → Gives (replay_by q) bytes u y → run_outcome o ≡ run_outcome u → o ≡ u
  same_outcome (Listed n) (Listed m) x y h i e =
      let program : i.program ≡ h.program = one_program bytes i.program h.program i.accepted h.accepted in
      let picks : i.output.picks ≡ h.output.picks = one_picks view h.program i.output.picks h.output.picks (subst (λ p. ArePicks view p i.output.picks) program i.output.given) h.output.given in
      ap Listed (notes_wanted q.has_notes h.program h.output.picks n m h.output.wanted
      (subst (λ p. AreNotesWanted q.has_notes p h.output.picks m) program (subst (λ xs. AreNotesWanted q.has_notes i.program xs m) picks i.output.wanted)))
  same_outcome (Listed n) (Refused s) x y h i e = absurd (cc e)
  same_outcome (Refused r) (Listed m) x y h i e = absurd (cc e)
  same_outcome (Refused r) (Refused s) x y h i e = let same : r ≡ s = cc e in ap Refused same

  pub replays_are_one : (o u : ReplayOutcome) (x y : List ℕ) → Gives (replay_by q) bytes o x → Gives (replay_by q) bytes u y → (o ≡ u) × (x ≡ y)
  replays_are_one o u x y h i =
      let both = one_run bytes view (run_outcome o) (run_outcome u) x y (run_given o x h) (run_given u y i) in
      (same_outcome o u x y h i both.0, both.1)

  pub replays_or_not : (o : ReplayOutcome) (x : List ℕ) → Gives (replay_by q) bytes o x → HasPicks view ⊎ (HasPicks view → ⊥)
  replays_or_not o x h = reads_or_not view bytes (run_outcome o) x (run_given o x h)
