-- Reading one term as a fold over the tokens, with a stack that has a frame for each tuple or list that is open.
-- Depends on tokens, limits and refusals (own). Laws say that it reads what the grammar derives.
use Rattle.std.specs.Prelude.{ℕ, ◌+◌, List, [], ◌∷◌, ◌++◌, length, Result, Ok, Err, Bool, true, false, cond, nat_lt, nat_le}
use Rattle.def_term.specs.Tree.{Tree, int, atom, pid, tuple, list, Trees, of_elements, depth}
use Rattle.def_text.specs.Tokens as text
use Rattle.def_text.specs.Tokens.{Token}
use Rattle.def_text.specs.Grammar.{of_codes}
use Rattle.def_text.specs.Limits.{TUPLE_LENGTH, LIST_LENGTH, sizes_ok}
use Rattle.def_text.specs.Faults.{FaultKind, misplaced, too_deep, too_large, Fault}

-- the brackets of a tuple, and those of a list
pub data Bracket : Type 0 where
  brace : Bracket
  bracket : Bracket

-- the tuple or list of these elements
abbrev pub node : Bracket → Trees → Tree
node brace us = tuple us
node bracket us = list us

-- the bracket that opens it
abbrev pub open_token : Bracket → Token
open_token brace = text.open_brace
open_token bracket = text.open_bracket

-- the bracket that closes it
abbrev pub close_token : Bracket → Token
close_token brace = text.close_brace
close_token bracket = text.close_bracket

-- a tuple has at most 255 elements, a list 4,096
abbrev pub most : Bracket → ℕ
most brace = TUPLE_LENGTH
most bracket = LIST_LENGTH

-- what a token does: it is a term, opens or closes a bracket, separates terms, or has no place in a term
pub data Sort : Type 0 where
  leaf : Tree → Sort
  opens : Bracket → Sort
  closes : Bracket → Sort
  separates : Sort
  nothing : Sort

-- by cases on the token
abbrev pub sort : Token → Sort
sort text.open_brace = opens brace
sort text.open_bracket = opens bracket
sort text.close_brace = closes brace
sort text.close_bracket = closes bracket
sort text.comma = separates
sort text.stop = nothing
sort (text.integer n) = leaf (int n)
sort (text.atom s) = leaf (atom s)
sort (text.characters s) = leaf (list (of_codes s))
sort (text.pid n) = leaf (pid n)
sort text.bad = nothing

-- the place of the next token: after an opening bracket, where a term must come, or after a term
pub data ReadPosition : Type 0 where
  first : ReadPosition
  next : ReadPosition
  behind : ReadPosition

-- the elements so far of a tuple or list that is open
pub data OpenFrame : Type 0 where
  frame : Bracket → List Tree → OpenFrame

-- within the open tuples and lists, the innermost first; or at the term's end
pub data ReadState : Type 0 where
  inside : ReadPosition → List OpenFrame → ReadState
  done : Tree → ReadState

-- nothing is read yet
abbrev pub read_start : ReadState
read_start = inside next []

-- a term, where a term may be
abbrev pub put : Tree → List OpenFrame → ReadState
put t [] = done t
put t (frame b f ∷ fs) = inside behind (frame b (f ++ t ∷ []) ∷ fs)

-- a term that is one token; the depth is tested before the sizes
abbrev pub leaf_at : ℕ → Bool → Tree → List OpenFrame → Result ReadState FaultKind
leaf_at limit sized t fs = cond (nat_le (length fs + depth t) limit) (cond (sizes_ok sized t) (Ok (put t fs)) (Err too_large)) (Err too_deep)

-- an opening bracket: refused where it would open one level more than the limit
abbrev pub open_at : ℕ → Bracket → List OpenFrame → Result ReadState FaultKind
open_at limit b fs = cond (nat_lt (length fs) limit) (Ok (inside first (frame b [] ∷ fs))) (Err too_deep)

-- a closing bracket: it must be of the kind that is open
abbrev pub close_top : Bracket → List OpenFrame → Result ReadState FaultKind
close_top b [] = Err misplaced
close_top brace (frame brace f ∷ fs) = Ok (put (tuple (of_elements f)) fs)
close_top brace (frame bracket f ∷ fs) = Err misplaced
close_top bracket (frame brace f ∷ fs) = Err misplaced
close_top bracket (frame bracket f ∷ fs) = Ok (put (list (of_elements f)) fs)

-- there may be one more element after so many
abbrev pub has_room : Bool → Bracket → ℕ → Bool
has_room false b n = true
has_room true b n = nat_lt n (most b)

-- a comma: refused after the last element that there may be
abbrev pub comma_at : Bool → List OpenFrame → Result ReadState FaultKind
comma_at sized [] = Err misplaced
comma_at sized (frame b f ∷ fs) = cond (has_room sized b (length f)) (Ok (inside next (frame b f ∷ fs))) (Err too_large)

-- by cases on the place and on what the token does
abbrev pub step_by_sort : ℕ → Bool → ReadState → Sort → Result ReadState FaultKind
step_by_sort limit sized (done t) k = Err misplaced
step_by_sort limit sized (inside first fs) (leaf t) = leaf_at limit sized t fs
step_by_sort limit sized (inside first fs) (opens b) = open_at limit b fs
step_by_sort limit sized (inside first fs) (closes b) = close_top b fs
step_by_sort limit sized (inside first fs) separates = Err misplaced
step_by_sort limit sized (inside first fs) nothing = Err misplaced
step_by_sort limit sized (inside next fs) (leaf t) = leaf_at limit sized t fs
step_by_sort limit sized (inside next fs) (opens b) = open_at limit b fs
step_by_sort limit sized (inside next fs) (closes b) = Err misplaced
step_by_sort limit sized (inside next fs) separates = Err misplaced
step_by_sort limit sized (inside next fs) nothing = Err misplaced
step_by_sort limit sized (inside behind fs) (leaf t) = Err misplaced
step_by_sort limit sized (inside behind fs) (opens b) = Err misplaced
step_by_sort limit sized (inside behind fs) (closes b) = close_top b fs
step_by_sort limit sized (inside behind fs) separates = comma_at sized fs
step_by_sort limit sized (inside behind fs) nothing = Err misplaced

-- one token
abbrev pub step : ℕ → Bool → ReadState → Token → Result ReadState FaultKind
step limit sized s x = step_by_sort limit sized s (sort x)

-- reading goes on, or the first of these tokens is refused
abbrev pub after_step : Result ReadState FaultKind → (ReadState → Result ReadState Fault) → List Token → Result ReadState Fault
after_step (Ok s) go ts = go s
after_step (Err k) go ts = Err (k, ts)

-- one token after the other
abbrev pub run : ℕ → Bool → ReadState → List Token → Result ReadState Fault
run limit sized s [] = Ok s
run limit sized s (x ∷ xs) = after_step (step limit sized s x) (λ s'. run limit sized s' xs) (x ∷ xs)

-- where the tokens end before the term does, the refusal has none left
abbrev pub end_reading : Result ReadState Fault → Result Tree Fault
end_reading (Err r) = Err r
end_reading (Ok (done t)) = Ok t
end_reading (Ok (inside p fs)) = Err (misplaced, [])

-- the term that the tokens derive, or the refusal
abbrev pub read : ℕ → Bool → List Token → Result Tree Fault
read limit sized ts = end_reading (run limit sized read_start ts)
