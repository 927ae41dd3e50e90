-- Reading a script as a fold over the tokens, which starts on a new term after each full stop.
-- Depends on the fold that reads one term (own). Laws say that it reads what the grammar derives.
use Rattle.std.specs.Prelude.{ℕ, List, [], ◌∷◌, ◌++◌, Result, Ok, Err, Bool}
use Rattle.def_term.specs.Tree.{Tree}
use Rattle.def_text.specs.Tokens as text
use Rattle.def_text.specs.Tokens.{Token}
use Rattle.def_text.specs.Faults.{FaultKind, misplaced, Fault}
use Rattle.def_text.specs.Reading.{first, next, behind, ReadState, inside, done, read_start, step}

-- the terms so far, and how far the next one is read; between terms that is its start
pub data ScriptState : Type 0 where
  reading : List Tree → ReadState → ScriptState

-- nothing is read yet
abbrev pub script_start : ScriptState
script_start = reading [] read_start

-- a full stop comes after a term, and nothing else
abbrev pub after_term : List Tree → Tree → Token → Result ScriptState FaultKind
after_term ts t text.stop = Ok (reading (ts ++ t ∷ []) read_start)
after_term ts t x = Err misplaced

-- a step within the next term
abbrev pub with_terms : List Tree → Result ReadState FaultKind → Result ScriptState FaultKind
with_terms ts (Ok s) = Ok (reading ts s)
with_terms ts (Err k) = Err k

-- one token
abbrev pub script_step : ℕ → Bool → ScriptState → Token → Result ScriptState FaultKind
script_step limit sized (reading ts (done t)) x = after_term ts t x
script_step limit sized (reading ts (inside p fs)) x = with_terms ts (step limit sized (inside p fs) x)

-- reading goes on, or the first of these tokens is refused
abbrev pub after_script_step : Result ScriptState FaultKind → (ScriptState → Result ScriptState Fault) → List Token → Result ScriptState Fault
after_script_step (Ok s) go xs = go s
after_script_step (Err k) go xs = Err (k, xs)

-- one token after the other
abbrev pub script_run : ℕ → Bool → ScriptState → List Token → Result ScriptState Fault
script_run limit sized s [] = Ok s
script_run limit sized s (x ∷ xs) = after_script_step (script_step limit sized s x) (λ z. script_run limit sized z xs) (x ∷ xs)

-- a script ends between terms; elsewhere the text ends before its term does, and no token is left
abbrev pub script_end : ScriptState → Result (List Tree) Fault
script_end (reading ts (done t)) = Err (misplaced, [])
script_end (reading ts (inside first fs)) = Err (misplaced, [])
script_end (reading ts (inside behind fs)) = Err (misplaced, [])
script_end (reading ts (inside next [])) = Ok ts
script_end (reading ts (inside next (f ∷ fs))) = Err (misplaced, [])

-- the end of a run
abbrev pub script_finish : Result ScriptState Fault → Result (List Tree) Fault
script_finish (Err r) = Err r
script_finish (Ok s) = script_end s

-- the terms that the tokens derive as a script, or the refusal
abbrev pub read_script : ℕ → Bool → List Token → Result (List Tree) Fault
read_script limit sized xs = script_finish (script_run limit sized script_start xs)
