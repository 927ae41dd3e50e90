-- The bytes of a script, the schedule and the question have one state.
use Rattle.std.proofs.Common.{◌≡◌, ◌∙◌, ◌⊎◌, inl, ℕ, ◌<◌, ◌≤◌, List, [], length, Option, Some, None, refl, sym, ap, subst, arith}
use Rattle.def_term.specs.Names.{Name}
use Rattle.def_script.specs.Program.{Program}
use Rattle.def_script.proofs.OneScript.{one_program}
use Rattle.def_run.specs.Run.{moves}
use Rattle.tn_moves.specs.Schedules.{ScheduleView, schedule_seen, ArePicks, HasPicks}
use Rattle.tn_run.specs.Answers.{run_for}
use Rattle.tn_run.specs.Jobs.{Gives, OfScript}
use Rattle.tn_run.specs.declared.outcome.Outcome.TheVariants as run
use Rattle.tn_run.specs.declared.outcome.RunRefusal.{RunRefusal}
use Rattle.tn_run.specs.declared.outcome.RunRefusal.TheVariants.{Text, Moves}
use Rattle.tn_state.specs.Requests.{asked_name, HasSession, LacksSession, IsStateReport, IsAskedState, state_by}
use Rattle.tn_state.specs.declared.request.StateQuestion.{StateQuestion}
use Rattle.tn_state.specs.declared.request.StateRequest.{StateRequest}
use Rattle.tn_state.specs.declared.request.StateOutcome.{StateOutcome}
use Rattle.tn_state.specs.declared.request.StateOutcome.TheVariants.{State, Refused, NoSession, NoMove}
use Rattle.complete_workers.proofs.OneRun.{given, not_refused, one_picks, one_refusal, refused_or_not}

-- ---- of one program and some picks

no_session : (n : Option Name) (p : Program) → HasSession n p → LacksSession n p → ⊥
no_session None p h i = i
no_session (Some n) p h i = cc

no_move : (n m : ℕ) → n ≤ m → m < n → ⊥
no_move n m h i = omega (arith, h, i)

pub one_answer : (p : Program) (picks : List ℕ) (q : StateQuestion) (o u : StateOutcome) (x y : List ℕ) → IsStateReport p picks q o x → IsStateReport p picks q u y → (o ≡ u) × (x ≡ y)
one_answer p picks q State State x y h i = (refl, h.2 ∙ sym i.2)
one_answer p picks q State NoSession x y h i = absurd (no_session (asked_name q) p h.0 i.0)
one_answer p picks q State NoMove x y h i = absurd (no_move q.move_number (length (moves p picks)) h.1 i.1)
one_answer p picks q State (Refused s) x y h i = absurd i
one_answer p picks q NoSession State x y h i = absurd (no_session (asked_name q) p i.0 h.0)
one_answer p picks q NoSession NoSession x y h i = (refl, h.1 ∙ sym i.1)
one_answer p picks q NoSession NoMove x y h i = absurd (no_session (asked_name q) p i.0 h.0)
one_answer p picks q NoSession (Refused s) x y h i = absurd i
one_answer p picks q NoMove State x y h i = absurd (no_move q.move_number (length (moves p picks)) i.1 h.1)
one_answer p picks q NoMove NoSession x y h i = absurd (no_session (asked_name q) p h.0 i.0)
one_answer p picks q NoMove NoMove x y h i = (refl, h.2 ∙ sym i.2)
one_answer p picks q NoMove (Refused s) x y h i = absurd i
one_answer p picks q (Refused r) u x y h i = absurd h

-- ---- of a text

module _ (bytes : List ℕ) (q : StateRequest) where
  abbrev view : ScheduleView
  view = schedule_seen q.schedule

  abbrev IsShownOf : StateOutcome → List ℕ → Type 0
  IsShownOf o x = OfScript bytes (λ p. IsAskedState q p o x)

  same_answer : (o u : StateOutcome) (x y : List ℕ) → IsShownOf o x → IsShownOf u y → (o ≡ u) × (x ≡ y)
  same_answer o u x y h i =
      let a : StateQuestion = q.question in
      let program : i.program ≡ h.program = one_program bytes i.program h.program i.accepted h.accepted in
      let picks : i.output.picks ≡ h.output.picks = one_picks view h.program i.output.picks h.output.picks (subst (λ p. ArePicks view p i.output.picks) program i.output.given) h.output.given in
      one_answer h.program h.output.picks a o u x y h.output.answer
      (subst (λ p. IsStateReport p h.output.picks a u y) program (subst (λ ps. IsStateReport i.program ps a u y) picks i.output.answer))

  -- it is refused as the run is
  run_refused : (r : RunRefusal) (x : List ℕ) → Gives (state_by q) bytes (Refused r) x → Gives (run_for view) bytes (run.Refused r) x
  run_refused (Text r) x h = h
  run_refused (Moves r) x h = h

  not_shown : (o : StateOutcome) (r : RunRefusal) (x y : List ℕ) → IsShownOf o x → Gives (state_by q) bytes (Refused r) y → ⊥
  not_shown o r x y h i = not_refused bytes view h.program h.output.picks r y h.accepted h.output.given (run_refused r y i)

  pub one_state : (o u : StateOutcome) (x y : List ℕ) → Gives (state_by q) bytes o x → Gives (state_by q) bytes u y → (o ≡ u) × (x ≡ y)
  one_state (Refused r) (Refused s) x y h i =
      let same = one_refusal bytes view r s x y (run_refused r x h) (run_refused s y i) in
      (ap Refused same.0, same.1)
  one_state (Refused r) State x y h i = absurd (not_shown State r y x i h)
  one_state (Refused r) NoSession x y h i = absurd (not_shown NoSession r y x i h)
  one_state (Refused r) NoMove x y h i = absurd (not_shown NoMove r y x i h)
  one_state State (Refused s) x y h i = absurd (not_shown State s x y h i)
  one_state NoSession (Refused s) x y h i = absurd (not_shown NoSession s x y h i)
  one_state NoMove (Refused s) x y h i = absurd (not_shown NoMove s x y h i)
  one_state State State x y h i = same_answer State State x y h i
  one_state State NoSession x y h i = same_answer State NoSession x y h i
  one_state State NoMove x y h i = same_answer State NoMove x y h i
  one_state NoSession State x y h i = same_answer NoSession State x y h i
  one_state NoSession NoSession x y h i = same_answer NoSession NoSession x y h i
  one_state NoSession NoMove x y h i = same_answer NoSession NoMove x y h i
  one_state NoMove State x y h i = same_answer NoMove State x y h i
  one_state NoMove NoSession x y h i = same_answer NoMove NoSession x y h i
  one_state NoMove NoMove x y h i = same_answer NoMove NoMove x y h i

  -- it has picks, or there are none
  pub shows_or_not : (o : StateOutcome) (x : List ℕ) → Gives (state_by q) bytes o x → HasPicks view ⊎ (HasPicks view → ⊥)
  shows_or_not (Refused r) x h = refused_or_not view bytes r x (run_refused r x h)
  shows_or_not State x h = inl (given view h.program h.output.picks h.output.given)
  shows_or_not NoSession x h = inl (given view h.program h.output.picks h.output.given)
  shows_or_not NoMove x h = inl (given view h.program h.output.picks h.output.given)
