-- What the reader's values stand for.
use Rattle.std.specs.Prelude.{◌≡◌, ℕ, ◌≤◌, List, [], ◌∷◌, length, map, true, Result, Ok, Err}
use Rattle.std.specs.declared.vec.Vec.{Vec}
use Rattle.def_term.specs.Tree.{Tree}
use Rattle.tn_term.specs.Views.{tree_of}
use Rattle.tn_term.specs.declared.term.Term.{Term}
use Rattle.def_text.specs.Limits.{DEPTH}
use Rattle.def_text.specs.Faults.{FaultKind, misplaced, too_deep, too_large, Fault}
use Rattle.def_text.specs.Reading as folds
use Rattle.def_text.specs.Reading.{ReadState, inside, done}
use Rattle.def_text.specs.ScriptReading.{ScriptState, reading}
use Rattle.tn_text.specs.Lexer.{StandsAt}
use Rattle.tn_text.specs.declared.lexer.Token.{Token}
use Rattle.tn_text.specs.declared.stack.Bracket.{Bracket}
use Rattle.tn_text.specs.declared.stack.Bracket.TheVariants as brackets
use Rattle.tn_text.specs.declared.stack.Frame.{Frame}
use Rattle.tn_text.specs.declared.stack.Position.{Position}
use Rattle.tn_text.specs.declared.stack.Position.TheVariants as positions
use Rattle.tn_text.specs.declared.stack.Progress.{Progress}
use Rattle.tn_text.specs.declared.stack.Progress.TheVariants as progress
use Rattle.tn_text.specs.declared.stack.StepError.{StepError}
use Rattle.tn_text.specs.declared.stack.StepError.TheVariants as step_error
use Rattle.tn_text.specs.declared.fault.TextFault.{TextFault}
use Rattle.tn_text.specs.declared.fault.TextFault.TheVariants as faults

abbrev pub bracket_of : Bracket → folds.Bracket
bracket_of brackets.Brace = folds.brace
bracket_of brackets.Square = folds.bracket

abbrev pub position_of : Position → folds.ReadPosition
position_of positions.First = folds.first
position_of positions.Next = folds.next
position_of positions.Behind = folds.behind

abbrev pub open_frame_of : {A : Type 0} → Frame A → folds.OpenFrame
open_frame_of f = folds.frame (bracket_of f.bracket) (map tree_of f.items.items)

-- the innermost is the last of the vector, and the first of the stack
abbrev pub frames_onto : {A : Type 0} → List (Frame A) → List folds.OpenFrame → List folds.OpenFrame
frames_onto [] stack = stack
frames_onto (v ∷ vs) stack = frames_onto vs (open_frame_of v ∷ stack)

abbrev pub frames_of : {A : Type 0} → List (Frame A) → List folds.OpenFrame
frames_of vs = frames_onto vs []

abbrev pub read_state_of : {A : Type 0} → Progress A → ReadState
read_state_of (progress.Inside p v) = inside (position_of p) (frames_of v.items)
read_state_of (progress.Done t) = done (tree_of t)

-- no more tuples and lists are open than may nest
abbrev pub IsShallow : ReadState → Type 0
IsShallow (inside p fs) = length fs ≤ DEPTH
IsShallow (done t) = Unit {0}

-- the refusal of a step; where memory ran out nothing is said
abbrev pub IsErrorOf : {S : Type 0} → StepError → Result S FaultKind → Type 0
IsErrorOf step_error.OutOfMemory r = Unit {0}
IsErrorOf step_error.Misplaced r = r ≡ Err misplaced
IsErrorOf step_error.TooDeep r = r ≡ Err too_deep
IsErrorOf step_error.TooLarge r = r ≡ Err too_large

-- the step that the definition takes
abbrev pub StepsReading : {A : Type 0} → Result (Progress A) StepError → Result ReadState FaultKind → Type 0
StepsReading (Ok p) r = r ≡ Ok (read_state_of p)
StepsReading (Err e) r = IsErrorOf e r

-- the step puts this tree, which one token spells, onto the frames
abbrev pub Puts : {A : Type 0} → Result (Progress A) StepError → Tree → List (Frame A) → Type 0
Puts r t vs = StepsReading r (folds.leaf_at DEPTH true t (frames_of vs))

abbrev pub text_fault_of : StepError → ℕ → TextFault
text_fault_of step_error.OutOfMemory at = faults.OutOfMemory
text_fault_of step_error.Misplaced at = faults.Token at
text_fault_of step_error.TooDeep at = faults.TooDeep at
text_fault_of step_error.TooLarge at = faults.TooLarge at

-- the refusal of the token at that place
abbrev pub IsStepFaultOf : {S : Type 0} → TextFault → ℕ → Result S FaultKind → Type 0
IsStepFaultOf faults.TooLong from r = ⊥
IsStepFaultOf (faults.Token at) from r = (at ≡ from) × (r ≡ Err misplaced)
IsStepFaultOf (faults.TooDeep at) from r = (at ≡ from) × (r ≡ Err too_deep)
IsStepFaultOf (faults.TooLarge at) from r = (at ≡ from) × (r ≡ Err too_large)
IsStepFaultOf faults.OutOfMemory from r = Unit {0}

abbrev pub StepsAt : {A : Type 0} → Result (Progress A) TextFault → ℕ → Result ReadState FaultKind → Type 0
StepsAt (Ok p) from r = r ≡ Ok (read_state_of p)
StepsAt (Err f) from r = IsStepFaultOf f from r

-- the step that the definition takes with the token that stands there
abbrev pub TakesToken : {A : Type 0} → Result (Progress A) TextFault → List ℕ → Token → Progress A → Type 0
TakesToken r bytes v p = (at : ℕ) (s : StandsAt bytes at v) → StepsAt r v.from (folds.step DEPTH true (read_state_of p) s.spanned.token)

-- the same within a script, of which these terms are read
abbrev pub ScriptStepsAt : {A : Type 0} → Result (Progress A) TextFault → List (Term A) → ℕ → Result ScriptState FaultKind → Type 0
ScriptStepsAt (Ok p) terms from r = r ≡ Ok (reading (map tree_of terms) (read_state_of p))
ScriptStepsAt (Err f) terms from r = IsStepFaultOf f from r

-- at the end of the text it is only a beginning
abbrev pub IsBeginning : {S : Type 0} → TextFault → ℕ → Result S Fault → Type 0
IsBeginning faults.TooLong end r = ⊥
IsBeginning (faults.Token at) end r = (at ≡ end) × (r ≡ Err (misplaced, []))
IsBeginning (faults.TooDeep at) end r = ⊥
IsBeginning (faults.TooLarge at) end r = ⊥
IsBeginning faults.OutOfMemory end r = ⊥

-- what is read at the end of the text
abbrev pub Finishes : {A : Type 0} → Result (Term A) TextFault → ℕ → Result Tree Fault → Type 0
Finishes (Ok t) end r = r ≡ Ok (tree_of t)
Finishes (Err f) end r = IsBeginning f end r

abbrev pub ScriptFinishes : {A : Type 0} → Result (Vec (Term A) A) TextFault → ℕ → Result (List Tree) Fault → Type 0
ScriptFinishes (Ok v) end r = r ≡ Ok (map tree_of v.items)
ScriptFinishes (Err f) end r = IsBeginning f end r
