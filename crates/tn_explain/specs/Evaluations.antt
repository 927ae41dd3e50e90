-- What the code's evaluations stand for.
use Rattle.std.specs.Prelude.{◌≡◌, ℕ, Bool, true, false, if◌then◌else◌, List, [], ◌∷◌, ◌++◌, Option, Some, None}
use Rattle.std.specs.Option.{option_map}
use Rattle.std.specs.declared.vec.Vec.{Vec}
use Rattle.def_term.specs.Names.{Name}
use Rattle.def_spec.specs.Expressions.{Context, Effect}
use Rattle.def_node.specs.Event.{Event}
use Rattle.def_session.specs.Settings.{Setting}
use Rattle.def_session.specs.State.{MarkKind, Session}
use Rattle.def_session.specs.Session.{context, mark_asked, effects_of, evaluated_by}
use Rattle.def_explain.specs.Accounts.{Line, said, setting_lines}
use Rattle.tn_flags.specs.Views.{call_seen, event_of}
use Rattle.tn_flags.specs.declared.event.Event as flags
use Rattle.tn_flags.specs.declared.event.Call.{Call}
use Rattle.tn_guard.specs.declared.value.Value.{Value}
use Rattle.tn_action.specs.Views.{context_seen}
use Rattle.tn_action.specs.declared.context.Context as action
use Rattle.tn_session.specs.Looks.{look_seen}
use Rattle.tn_session.specs.Views.{mark_kind_seen}
use Rattle.tn_session.specs.declared.look.Look.{Look}
use Rattle.tn_running_node.specs.declared.actor.Actor.{Actor}
use Rattle.tn_running_node.specs.Evaluations.{context_on_values}
use Rattle.tn_explain.specs.LineParts.{lines_before, lines_after}
use Rattle.tn_explain.specs.Lines.{lines_text}
use Rattle.tn_explain.specs.declared.clauses.Evaluation.{Evaluation}
use Rattle.tn_explain.specs.declared.clauses.Evaluation.TheVariants.{Refused, Done}
use Rattle.tn_explain.specs.declared.line.Lines.{Lines}

-- the mark of the frame of a call that the effects ask for, where there are any
abbrev pub marks_seen_by : Evaluation → Option (Option MarkKind)
marks_seen_by Refused = None
marks_seen_by (Done mark) = Some (option_map mark_kind_seen mark)

-- whether there are any
abbrev pub is_done : Evaluation → Bool
is_done Refused = false
is_done (Done mark) = true

-- the mark that it gets by them, if it gets one
abbrev pub mark_by : Evaluation → Option MarkKind
mark_by Refused = None
mark_by (Done mark) = option_map mark_kind_seen mark

-- these lines were appended, and these are the effects
pub record GivesLines (n : Name) (ls : List Line) (es : Option (List Effect)) (old new : List ℕ) (r : Evaluation) : Type 0 where
  pub text : new ≡ old ++ lines_text n ls
  pub effects : marks_seen_by r ≡ option_map mark_asked es

-- those of a setting
abbrev pub GivesBySetting : Name → Setting → Context → List ℕ → List ℕ → Evaluation → Type 0
GivesBySetting n g c old new r = GivesLines n (setting_lines g c) (evaluated_by g c) old new r

-- those of an event
abbrev pub GivesOf : Name → Session → Event → List ℕ → List ℕ → Evaluation → Type 0
GivesOf n s e old new r = GivesLines n (lines_before s e) (effects_of s e) old new r

-- no effects, where an event is evaluated
abbrev pub effects_where : Bool → Option (List Effect)
effects_where effects_of = if effects_of then Some [] else None

-- why it isn't, where it isn't
abbrev pub lines_where : Bool → List ℕ → List Line
lines_where effects_of why = if effects_of then [] else said why ∷ []

abbrev pub GivesWhere : Name → Bool → List ℕ → List ℕ → List ℕ → Evaluation → Type 0
GivesWhere n effects_of why old new r = GivesLines n (lines_where effects_of why) (effects_where effects_of) old new r

-- of this event
abbrev pub IsEvaluationOf : Session → Event → Evaluation → Type 0
IsEvaluationOf s e r = marks_seen_by r ≡ option_map mark_asked (effects_of s e)

-- an event, as a look at the session has it: its lines up to its evaluation were appended, and this is what comes of it
abbrev pub Evaluates : {A : Type 0} → Lines A → Look A → Event → (old new : Vec ℕ A) → Evaluation → Type 0
Evaluates lines look e old new r = GivesOf lines.name.now (look_seen look) e old.items new.items r

-- the same of a setting in a context
abbrev pub EvaluatesBy : {A : Type 0} → Lines A → Setting → action.Context A → (old new : Vec ℕ A) → Evaluation → Type 0
EvaluatesBy lines g c old new r = GivesBySetting lines.name.now g (context_seen c) old.items new.items r

-- the same of a setting on these values of a process
abbrev pub AnswersOn : {A : Type 0} → Lines A → Setting → Look A → Actor A → List (Value A) → (old new : Vec ℕ A) → Evaluation → Type 0
AnswersOn lines g look actor vs old new r = GivesBySetting lines.name.now g (context_on_values (look_seen look) actor vs) old.items new.items r

-- the same of a setting on a call of a process
abbrev pub AnswersCall : {A : Type 0} → Lines A → Setting → Look A → (self_pid : ℕ) → Call A → (old new : Vec ℕ A) → Evaluation → Type 0
AnswersCall lines g look self_pid c old new r =
    GivesBySetting lines.name.now g (context (look_seen look) self_pid (call_seen c).args (call_seen c).caller) old.items new.items r

-- these lines were appended, and there are no effects, since the event isn't evaluated
abbrev pub Refuses : {A : Type 0} → Lines A → List Line → (old new : Vec ℕ A) → Evaluation → Type 0
Refuses lines ls old new r = GivesLines lines.name.now ls None old.items new.items r

-- where this is what comes of an event, this holds of the lines that stand at its end
abbrev pub AtTheEnd : {A : Type 0} → Look A → flags.Event A → Evaluation → (List Line → Type 0) → Type 0
AtTheEnd look e r Holds = IsEvaluationOf (look_seen look) (event_of e) r → Holds (lines_after (look_seen look) (event_of e))
