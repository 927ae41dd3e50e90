-- The bytes of a script, the schedule, the filter and the message have one explanation.
use Rattle.std.proofs.Common.{◌≡◌, ◌≢◌, ◌∙◌, ◌⊎◌, inl, ℕ, Bool, true, false, ◌||◌, List, [], Option, Some, None, is_some, refl, sym, ap, subst}
use Rattle.def_term.specs.Names.{Name}
use Rattle.def_script.specs.Program.{Program}
use Rattle.def_script.proofs.OneScript.{one_program}
use Rattle.def_message_choice.specs.ChosenAccounts.{AccountQuestion, account_question_text}
use Rattle.tn_moves.specs.Schedules.{ScheduleView, schedule_seen, ArePicks, HasPicks}
use Rattle.tn_run.specs.Answers.{run_for}
use Rattle.tn_run.specs.Jobs.{Gives, OfScript}
use Rattle.tn_run.specs.declared.outcome.Outcome.TheVariants as run
use Rattle.tn_run.specs.declared.outcome.RunRefusal.{RunRefusal}
use Rattle.tn_run.specs.declared.outcome.RunRefusal.TheVariants.{Text, Moves}
use Rattle.tn_explain.specs.Accounts.{HasAskedSession, LacksAskedSession, asks_for_moves, IsAnswer, IsAskedAnswer, explain_by}
use Rattle.tn_explain.specs.Filters.{account_question_seen}
use Rattle.tn_explain.specs.declared.request.ExplainRequest.{ExplainRequest}
use Rattle.tn_explain.specs.declared.request.ExplainOutcome.{ExplainOutcome}
use Rattle.tn_explain.specs.declared.request.ExplainOutcome.TheVariants.{Account, Refused, NoSession, NoMove, NoDifference, NoMessage}
use Rattle.complete_workers.proofs.OneRun.{given, not_refused, one_picks, one_refusal, refused_or_not}

-- ---- of one program and some picks

no_session : (n : Option Name) (p : Program) → HasAskedSession n p → LacksAskedSession n p → ⊥
no_session None p h i = i
no_session (Some n) p h i = cc

-- an account with a line isn't empty
no_line : (b : Bool) (x y : List ℕ) → b ≡ true → x ≡ y → (b ≡ true → x ≢ []) → y ≡ [] → ⊥
no_line b x y asked same h none = h asked (same ∙ none)

-- a message asks for a line, and so does a move's number, and a node
or_true : (b : Bool) → (b || true) ≡ true
or_true true = refl
or_true false = refl

message_asks : (a : AccountQuestion) → is_some a.message ≡ true → asks_for_moves a ≡ true
message_asks a h = ap (λ b. b || (a.question.node || is_some a.question.filter.move)) h

number_asks : (a : AccountQuestion) → is_some a.question.filter.move ≡ true → asks_for_moves a ≡ true
number_asks a h = ap (λ b. is_some a.message || (a.question.node || b)) h ∙ ap (λ b. is_some a.message || b) (or_true a.question.node) ∙ or_true (is_some a.message)

node_asks : (a : AccountQuestion) → a.question.node ≡ true → asks_for_moves a ≡ true
node_asks a h = ap (λ b. is_some a.message || (b || is_some a.question.filter.move)) h ∙ or_true (is_some a.message)

not_both_ways : (b : Bool) → b ≡ false → b ≡ true → ⊥
not_both_ways b h i = cc (sym h ∙ i)

pub one_answer : (p : Program) (picks : List ℕ) (a : AccountQuestion) (o u : ExplainOutcome) (x y : List ℕ) → IsAnswer p picks a o x → IsAnswer p picks a u y → (o ≡ u) × (x ≡ y)
one_answer p picks a Account Account x y h i = (refl, h.2 ∙ sym i.2)
one_answer p picks a Account NoSession x y h i = absurd (no_session a.question.filter.session p h.0 i.0)
one_answer p picks a Account NoMove x y h i = absurd (no_line (asks_for_moves a) x (account_question_text a p picks) (number_asks a i.3) h.2 h.1 i.4)
one_answer p picks a Account NoDifference x y h i = absurd (no_line (asks_for_moves a) x (account_question_text a p picks) (node_asks a i.2) h.2 h.1 i.3)
one_answer p picks a Account NoMessage x y h i = absurd (no_line (asks_for_moves a) x (account_question_text a p picks) (message_asks a i.1) h.2 h.1 i.2)
one_answer p picks a Account (Refused s) x y h i = absurd i
one_answer p picks a NoSession Account x y h i = absurd (no_session a.question.filter.session p i.0 h.0)
one_answer p picks a NoSession NoSession x y h i = (refl, h.1 ∙ sym i.1)
one_answer p picks a NoSession NoMove x y h i = absurd (no_session a.question.filter.session p i.0 h.0)
one_answer p picks a NoSession NoDifference x y h i = absurd (no_session a.question.filter.session p i.0 h.0)
one_answer p picks a NoSession NoMessage x y h i = absurd (no_session a.question.filter.session p i.0 h.0)
one_answer p picks a NoSession (Refused s) x y h i = absurd i
one_answer p picks a NoMove Account x y h i = absurd (no_line (asks_for_moves a) y (account_question_text a p picks) (number_asks a h.3) i.2 i.1 h.4)
one_answer p picks a NoMove NoSession x y h i = absurd (no_session a.question.filter.session p h.0 i.0)
one_answer p picks a NoMove NoMove x y h i = (refl, h.5 ∙ sym i.5)
one_answer p picks a NoMove NoDifference x y h i = absurd (not_both_ways a.question.node h.2 i.2)
one_answer p picks a NoMove NoMessage x y h i = absurd (not_both_ways (is_some a.message) h.1 i.1)
one_answer p picks a NoMove (Refused s) x y h i = absurd i
one_answer p picks a NoDifference Account x y h i = absurd (no_line (asks_for_moves a) y (account_question_text a p picks) (node_asks a h.2) i.2 i.1 h.3)
one_answer p picks a NoDifference NoSession x y h i = absurd (no_session a.question.filter.session p h.0 i.0)
one_answer p picks a NoDifference NoMove x y h i = absurd (not_both_ways a.question.node i.2 h.2)
one_answer p picks a NoDifference NoDifference x y h i = (refl, h.4 ∙ sym i.4)
one_answer p picks a NoDifference NoMessage x y h i = absurd (not_both_ways (is_some a.message) h.1 i.1)
one_answer p picks a NoDifference (Refused s) x y h i = absurd i
one_answer p picks a NoMessage Account x y h i = absurd (no_line (asks_for_moves a) y (account_question_text a p picks) (message_asks a h.1) i.2 i.1 h.2)
one_answer p picks a NoMessage NoSession x y h i = absurd (no_session a.question.filter.session p h.0 i.0)
one_answer p picks a NoMessage NoMove x y h i = absurd (not_both_ways (is_some a.message) i.1 h.1)
one_answer p picks a NoMessage NoDifference x y h i = absurd (not_both_ways (is_some a.message) i.1 h.1)
one_answer p picks a NoMessage NoMessage x y h i = (refl, h.3 ∙ sym i.3)
one_answer p picks a NoMessage (Refused s) x y h i = absurd i
one_answer p picks a (Refused r) u x y h i = absurd h

-- ---- of a text

module _ (bytes : List ℕ) (q : ExplainRequest) where
  abbrev view : ScheduleView
  view = schedule_seen q.schedule

  abbrev IsExplainedOf : ExplainOutcome → List ℕ → Type 0
  IsExplainedOf o x = OfScript bytes (λ p. IsAskedAnswer q p o x)

  same_answer : (o u : ExplainOutcome) (x y : List ℕ) → IsExplainedOf o x → IsExplainedOf u y → (o ≡ u) × (x ≡ y)
  same_answer o u x y h i =
      let a : AccountQuestion = account_question_seen q.filter q.message in
      let program : i.program ≡ h.program = one_program bytes i.program h.program i.accepted h.accepted in
      let picks : i.output.picks ≡ h.output.picks = one_picks view h.program i.output.picks h.output.picks (subst (λ p. ArePicks view p i.output.picks) program i.output.given) h.output.given in
      one_answer h.program h.output.picks a o u x y h.output.answer
      (subst (λ p. IsAnswer p h.output.picks a u y) program (subst (λ ps. IsAnswer i.program ps a u y) picks i.output.answer))

  -- it is refused as the run is
  run_refused : (r : RunRefusal) (x : List ℕ) → Gives (explain_by q) bytes (Refused r) x → Gives (run_for view) bytes (run.Refused r) x
  run_refused (Text r) x h = h
  run_refused (Moves r) x h = h

  not_explained : (o : ExplainOutcome) (r : RunRefusal) (x y : List ℕ) → IsExplainedOf o x → Gives (explain_by q) bytes (Refused r) y → ⊥
  not_explained o r x y h i = not_refused bytes view h.program h.output.picks r y h.accepted h.output.given (run_refused r y i)

  pub one_explanation : (o u : ExplainOutcome) (x y : List ℕ) → Gives (explain_by q) bytes o x → Gives (explain_by q) bytes u y → (o ≡ u) × (x ≡ y)
  one_explanation (Refused r) (Refused s) x y h i =
      let same = one_refusal bytes view r s x y (run_refused r x h) (run_refused s y i) in
      (ap Refused same.0, same.1)
  one_explanation (Refused r) Account x y h i = absurd (not_explained Account r y x i h)
  one_explanation (Refused r) NoSession x y h i = absurd (not_explained NoSession r y x i h)
  one_explanation (Refused r) NoMove x y h i = absurd (not_explained NoMove r y x i h)
  one_explanation (Refused r) NoDifference x y h i = absurd (not_explained NoDifference r y x i h)
  one_explanation (Refused r) NoMessage x y h i = absurd (not_explained NoMessage r y x i h)
  one_explanation Account (Refused s) x y h i = absurd (not_explained Account s x y h i)
  one_explanation NoSession (Refused s) x y h i = absurd (not_explained NoSession s x y h i)
  one_explanation NoMove (Refused s) x y h i = absurd (not_explained NoMove s x y h i)
  one_explanation NoDifference (Refused s) x y h i = absurd (not_explained NoDifference s x y h i)
  one_explanation NoMessage (Refused s) x y h i = absurd (not_explained NoMessage s x y h i)
  one_explanation Account Account x y h i = same_answer Account Account x y h i
  one_explanation Account NoSession x y h i = same_answer Account NoSession x y h i
  one_explanation Account NoMove x y h i = same_answer Account NoMove x y h i
  one_explanation Account NoDifference x y h i = same_answer Account NoDifference x y h i
  one_explanation Account NoMessage x y h i = same_answer Account NoMessage x y h i
  one_explanation NoSession Account x y h i = same_answer NoSession Account x y h i
  one_explanation NoSession NoSession x y h i = same_answer NoSession NoSession x y h i
  one_explanation NoSession NoMove x y h i = same_answer NoSession NoMove x y h i
  one_explanation NoSession NoDifference x y h i = same_answer NoSession NoDifference x y h i
  one_explanation NoSession NoMessage x y h i = same_answer NoSession NoMessage x y h i
  one_explanation NoMove Account x y h i = same_answer NoMove Account x y h i
  one_explanation NoMove NoSession x y h i = same_answer NoMove NoSession x y h i
  one_explanation NoMove NoMove x y h i = same_answer NoMove NoMove x y h i
  one_explanation NoMove NoDifference x y h i = same_answer NoMove NoDifference x y h i
  one_explanation NoMove NoMessage x y h i = same_answer NoMove NoMessage x y h i
  one_explanation NoDifference Account x y h i = same_answer NoDifference Account x y h i
  one_explanation NoDifference NoSession x y h i = same_answer NoDifference NoSession x y h i
  one_explanation NoDifference NoMove x y h i = same_answer NoDifference NoMove x y h i
  one_explanation NoDifference NoDifference x y h i = same_answer NoDifference NoDifference x y h i
  one_explanation NoDifference NoMessage x y h i = same_answer NoDifference NoMessage x y h i
  one_explanation NoMessage Account x y h i = same_answer NoMessage Account x y h i
  one_explanation NoMessage NoSession x y h i = same_answer NoMessage NoSession x y h i
  one_explanation NoMessage NoMove x y h i = same_answer NoMessage NoMove x y h i
  one_explanation NoMessage NoDifference x y h i = same_answer NoMessage NoDifference x y h i
  one_explanation NoMessage NoMessage x y h i = same_answer NoMessage NoMessage x y h i

  -- it has picks, or there are none
  pub explains_or_not : (o : ExplainOutcome) (x : List ℕ) → Gives (explain_by q) bytes o x → HasPicks view ⊎ (HasPicks view → ⊥)
  explains_or_not (Refused r) x h = refused_or_not view bytes r x (run_refused r x h)
  explains_or_not Account x h = inl (given view h.program h.output.picks h.output.given)
  explains_or_not NoSession x h = inl (given view h.program h.output.picks h.output.given)
  explains_or_not NoMove x h = inl (given view h.program h.output.picks h.output.given)
  explains_or_not NoDifference x h = inl (given view h.program h.output.picks h.output.given)
  explains_or_not NoMessage x h = inl (given view h.program h.output.picks h.output.given)
