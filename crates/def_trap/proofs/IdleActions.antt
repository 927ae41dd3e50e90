-- Actions without an effect.
use Rattle.std.proofs.Common.{◌≡◌, ◌∙◌, ap, ℕ, Bool, true, false, List, [], ◌++◌, Option, Some, None, refl}
use Rattle.std.proofs.lemmas.List.{append-nil}
use Rattle.def_term.specs.Tree.{Tree}
use Rattle.def_spec.specs.Flags.{Flag, Flags}
use Rattle.def_spec.specs.Expressions.{Dialect, for_calls, for_sends, for_receives, Action, message, return_trace, exception_trace, silent, enable_trace, disable_trace, trace, caller, Context, Effect, change, trace_change, action_done, Evaluation, comes_to, faults, then_on, with_effect, in_body, its_effects}
use Rattle.def_trap.specs.Actions.{is_of_calls}
use Rattle.def_trap.specs.Traps.{marks_call}

-- a fault, or a value without effects
abbrev pub IsIdle : Option (Tree × List Effect) → Type 0
IsIdle None = Unit {0}
IsIdle (Some p) = p.1 ≡ []

idle_after : (r : Option (Tree × List Effect)) (y : List Effect) → IsIdle r → its_effects (with_effect in_body r y) ≡ y
idle_after None y h = refl
idle_after (Some p) y h = ap (λ l. y ++ l) h ∙ append-nil y

-- then the arguments' effects are all
pub idle_call : (r : Evaluation (List Tree)) (f : List Tree → List Effect → Option (Tree × List Effect))
    → ((ts : List Tree) (y : List Effect) → r ≡ comes_to ts y → IsIdle (f ts y))
    → its_effects (then_on r (λ ts y. with_effect in_body (f ts y) y)) ≡ its_effects r
idle_call (comes_to ts y) f h = idle_after (f ts y) y (h ts y refl)
idle_call (faults es) f h = refl

-- marks, where there is no call
pub idle_marks : (d : Dialect) (a : Action) (ts : List Tree) (c : Context) → marks_call a ≡ true → is_of_calls d ≡ false → IsIdle (action_done d a ts c)
idle_marks for_calls a ts c m e = let clash : true ≡ false = e in cc
idle_marks for_sends message ts c m e = let clash : false ≡ true = m in cc
idle_marks for_sends return_trace ts c m e = refl
idle_marks for_sends exception_trace ts c m e = refl
idle_marks for_sends silent ts c m e = let clash : false ≡ true = m in cc
idle_marks for_sends enable_trace ts c m e = let clash : false ≡ true = m in cc
idle_marks for_sends disable_trace ts c m e = let clash : false ≡ true = m in cc
idle_marks for_sends trace ts c m e = let clash : false ≡ true = m in cc
idle_marks for_sends caller ts c m e = let clash : false ≡ true = m in cc
idle_marks for_receives message ts c m e = let clash : false ≡ true = m in cc
idle_marks for_receives return_trace ts c m e = refl
idle_marks for_receives exception_trace ts c m e = refl
idle_marks for_receives silent ts c m e = let clash : false ≡ true = m in cc
idle_marks for_receives enable_trace ts c m e = let clash : false ≡ true = m in cc
idle_marks for_receives disable_trace ts c m e = let clash : false ≡ true = m in cc
idle_marks for_receives trace ts c m e = let clash : false ≡ true = m in cc
idle_marks for_receives caller ts c m e = let clash : false ≡ true = m in cc

-- no flag is changed where there is none
pub no_change : (on : Bool) (p : Option ℕ) (f : Option Flag) → f ≡ None → change on p f ≡ None
no_change on (Some n) (Some f) e = let clash : Some f ≡ None = e in cc
no_change on (Some n) None e = refl
no_change on None (Some f) e = refl
no_change on None None e = refl

-- and none by a list that is none
pub no_off : (c : Context) (p : Option ℕ) (off on : Option Flags) → off ≡ None → trace_change c p off on ≡ None
no_off c (Some n) (Some f) on e = let clash : Some f ≡ None = e in cc
no_off c (Some n) None on e = refl
no_off c None off on e = refl

pub no_on : (c : Context) (p : Option ℕ) (off on : Option Flags) → on ≡ None → trace_change c p off on ≡ None
no_on c (Some n) (Some f) (Some g) e = let clash : Some g ≡ None = e in cc
no_on c (Some n) (Some f) None e = refl
no_on c (Some n) None on e = refl
no_on c None off on e = refl
