-- The bytes of a script and the schedule have one picture.
use Rattle.std.proofs.Common.{◌≡◌, ◌∙◌, ◌⊎◌, inl, ℕ, List, [], refl, sym, ap, ap₂, subst}
use Rattle.def_script.proofs.OneScript.{one_program}
use Rattle.def_run.specs.Output.{refusal_text}
use Rattle.tn_refusal.specs.Refusals.{refusal_of}
use Rattle.tn_moves.specs.Schedules.{ScheduleView, schedule_seen, ArePicks, HasPicks}
use Rattle.tn_run.specs.Answers.{run_for}
use Rattle.tn_run.specs.Jobs.{Gives, OfScript}
use Rattle.tn_run.specs.declared.outcome.Outcome.TheVariants as run
use Rattle.tn_run.specs.declared.outcome.RunRefusal.{RunRefusal}
use Rattle.tn_run.specs.declared.outcome.RunRefusal.TheVariants.{Text, Moves}
use Rattle.tn_picture.specs.Requests.{picture_text, IsAskedDrawing, draw_by}
use Rattle.tn_picture.specs.declared.request.DrawRequest.{DrawRequest}
use Rattle.tn_picture.specs.declared.request.DrawOutcome.{DrawOutcome}
use Rattle.tn_picture.specs.declared.request.DrawOutcome.TheVariants.{Drawn, Refused}
use Rattle.complete_workers.proofs.OneRun.{given, not_refused, one_picks, one_refusal, refused_or_not}

module _ (bytes : List ℕ) (q : DrawRequest) where
  abbrev view : ScheduleView
  view = schedule_seen q.schedule

  abbrev IsDrawnOf : List ℕ → Type 0
  IsDrawnOf x = OfScript bytes (λ p. IsAskedDrawing q p x)

  same_text : (x y : List ℕ) → IsDrawnOf x → IsDrawnOf y → x ≡ y
  same_text x y h i =
      let program : i.program ≡ h.program = one_program bytes i.program h.program i.accepted h.accepted in
      let picks : i.output.picks ≡ h.output.picks = one_picks view h.program i.output.picks h.output.picks (subst (λ p. ArePicks view p i.output.picks) program i.output.given) h.output.given in
      h.output.drawing ∙ ap₂ (picture_text q.format) (sym program) (sym picks) ∙ sym i.output.drawing

  -- what the run writes where it is refused
  abbrev run_line : RunRefusal → List ℕ
  run_line (Text r) = refusal_text (refusal_of r)
  run_line (Moves r) = []

  -- it is refused as the run is
  run_refused : (r : RunRefusal) (x : List ℕ) → Gives (draw_by q) bytes (Refused r) x → Gives (run_for view) bytes (run.Refused r) (run_line r)
  run_refused (Text r) x h = (h.0, refl)
  run_refused (Moves r) x h = record { program = h.program; accepted = h.accepted; output = (h.output.0, refl) }

  -- and then nothing is written
  none_written : (r : RunRefusal) (x : List ℕ) → Gives (draw_by q) bytes (Refused r) x → x ≡ []
  none_written (Text r) x h = h.1
  none_written (Moves r) x h = h.output.1

  not_drawn : (r : RunRefusal) (x y : List ℕ) → IsDrawnOf x → Gives (draw_by q) bytes (Refused r) y → ⊥
  not_drawn r x y h i = not_refused bytes view h.program h.output.picks r (run_line r) h.accepted h.output.given (run_refused r y i)

  pub one_drawing : (o u : DrawOutcome) (x y : List ℕ) → Gives (draw_by q) bytes o x → Gives (draw_by q) bytes u y → (o ≡ u) × (x ≡ y)
  one_drawing (Refused r) (Refused s) x y h i =
      let same = one_refusal bytes view r s (run_line r) (run_line s) (run_refused r x h) (run_refused s y i) in
      (ap Refused same.0, none_written r x h ∙ sym (none_written s y i))
  one_drawing (Refused r) Drawn x y h i = absurd (not_drawn r y x i h)
  one_drawing Drawn (Refused s) x y h i = absurd (not_drawn s x y h i)
  one_drawing Drawn Drawn x y h i = (refl, same_text x y h i)

  -- it has picks, or there are none
  pub draws_or_not : (o : DrawOutcome) (x : List ℕ) → Gives (draw_by q) bytes o x → HasPicks view ⊎ (HasPicks view → ⊥)
  draws_or_not (Refused r) x h = refused_or_not view bytes r (run_line r) (run_refused r x h)
  draws_or_not Drawn x h = inl (given view h.program h.output.picks h.output.given)
