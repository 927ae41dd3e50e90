-- What a node does otherwise by the step at an event, by when it is known: before the session sees the event, and afterwards.
use Rattle.std.specs.Prelude.{◌≡◌, Bool, false, not, ◌&&◌, if◌then◌else◌, List, [], ◌∷◌}
use Rattle.def_node.specs.Event.{Event, received}
use Rattle.def_outlook.specs.Outlook.{Outlook}
use Rattle.def_session.specs.State.{Session}
use Rattle.def_explain.specs.Differences.{Difference, catches_error, reports_attempt, raises_noproc, reports_later, adds_calls, reports_exceptions, step_differs}
use Rattle.tn_explain.specs.declared.step_differences.StepDifferences as code

-- the difference, where it is one, before others
abbrev pub one_before : Bool → Difference → List Difference → List Difference
one_before b x xs = if b then x ∷ xs else xs

abbrev pub step_differences_seen : code.StepDifferences → List Difference
step_differences_seen d = one_before d.attempt reports_attempt (one_before d.caught catches_error (one_before d.noproc raises_noproc (one_before d.later reports_later (one_before d.calls adds_calls (one_before d.exceptions reports_exceptions [])))))

-- a receive that is reported, whose process doesn't wait
abbrev pub is_reported_later : Outlook → Event → (reported : Bool) → Bool
is_reported_later l (received p sender t) reported = not l.is_awaited && reported
is_reported_later l e reported = false

-- they are what is known before
pub record AreBefore (s : Session) (l : Outlook) (e : Event) (d : code.StepDifferences) : Type 0 where
  pub attempt : d.attempt ≡ step_differs s l e reports_attempt
  pub caught : d.caught ≡ step_differs s l e catches_error
  pub noproc : d.noproc ≡ step_differs s l e raises_noproc
  pub calls : d.calls ≡ step_differs s l e adds_calls
  pub exceptions : d.exceptions ≡ step_differs s l e reports_exceptions

-- and these what is known afterwards
pub record AreAfterEvent (l : Outlook) (e : Event) (reported : Bool) (d f : code.StepDifferences) : Type 0 where
  pub attempt : f.attempt ≡ d.attempt
  pub caught : f.caught ≡ d.caught
  pub noproc : f.noproc ≡ d.noproc
  pub calls : f.calls ≡ d.calls
  pub exceptions : f.exceptions ≡ d.exceptions
  pub later : f.later ≡ is_reported_later l e reported
