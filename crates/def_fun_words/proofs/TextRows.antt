-- Rows: tests of the specifications of funs, in the funs' words.
use Rattle.std.proofs.Common.{◌≡◌, ℕ, List, [], ◌∷◌, ◌++◌, None, Ok, Err, Result, pos, codes, refl}
use Prim.Native.String.{String}
use Rattle.std.specs.Fmt.{digits}
use Rattle.std.specs.Prelude.{flat_map}
use Rattle.def_term.specs.Text.{is_written_bare}
use Rattle.def_term.specs.Tree.{Tree, int, tuple, none, more}
use Rattle.def_term.specs.Names.{word}
use Rattle.def_spec.specs.Expressions.{for_calls, Context}
use Rattle.def_spec.specs.Outcome.{Spec}
use Rattle.def_spec.specs.Reading.{spec_of}
use Rattle.def_session.specs.State.{alive_at_start}
use Rattle.def_fun.specs.Answers.{spec_of_text}
use Rattle.def_explain.specs.Texts.{spec_test_flags}
use Rattle.def_fun_words.specs.Words.{words_of_text}
use Rattle.def_fun_words.specs.WordTexts.{fun_test_text}

abbrev on : List Tree → Context
on ts = record { matched_list = ts; self_pid = 100; caller_mfa = None; alive = alive_at_start 1; flags = spec_test_flags for_calls 100 }

abbrev number : ℕ → Tree
number n = int (pos n)

abbrev tested : {E : Type 0} → List ℕ → List Tree → Result Spec E → List ℕ
tested text ts (Ok s) = fun_test_text (words_of_text text) s.dialect s.clauses (on ts)
tested text ts (Err e) = []

abbrev read : {E : Type 0} → List ℕ → List Tree → Result Tree E → List ℕ
read text ts (Ok t) = tested text ts (spec_of for_calls t)
read text ts (Err e) = []

-- what `spec --fun` answers of a fun on a list
abbrev answer : String → List Tree → List ℕ
answer fun ts = read (codes fun) ts (spec_of_text for_calls (codes fun))

abbrev lines : List String → List ℕ
lines ls = flat_map (λ l. codes l ++ 10 ∷ []) ls

pub a_guard_is_false : answer "fun([X]) when X > 3 -> message(X) end" (number 1 ∷ []) ≡ lines ("clause 1 (line 1): guard X > 3 is false: X is 1" ∷ "=> no message: no clause fires" ∷ [])
unfolding is_written_bare digits
a_guard_is_false = refl

-- the second guard is another clause, of the same line; its name and its value
pub another_guard_fires : answer "fun([X,_]) when X == 1; X  > % 2\n 3 ->\n message(X);\n(_) -> true end" (number 7 ∷ number 8 ∷ [])
    ≡ lines ("clause 1 (line 1): guard X == 1 is false: X is 7" ∷ "clause 2 (line 1) fires: message 7" ∷ "  X is 7" ∷ "=> a message that ends in 7" ∷ [])
unfolding is_written_bare digits
another_guard_fires = refl

-- a head that differs at a variable, a length, and a guard that faults; the whole has no line
pub heads_and_faults : answer "fun([A,{A,_}]) -> A;\n   ([A]) -> A;\n   (All = [Who,{b,Id}]) when is_atom(Who), hd(Id) -> All; ([P,Q] = R) -> {P,Q,R} end" (word "a" ∷ tuple (more (word "b") (more (number 3) none)) ∷ [])
    ≡ lines ("clause 1 (line 1): the head doesn't match at element 2, element 1: A is a, found b" ∷ "clause 2 (line 2): the head has another number of elements"
    ∷ "clause 3 (line 3): guard hd(Id) faults at {hd,'$2'}" ∷ "clause 4 (line 3) fires" ∷ "  P is a" ∷ "  Q is {b,3}" ∷ "=> a message" ∷ [])
unfolding is_written_bare digits
heads_and_faults = refl

-- the second condition of a guard
pub second_condition : answer "fun([X]) when true, X + 1 -> X end" (number 1 ∷ []) ≡ lines ("clause 1 (line 1): guard X + 1 is 2: X is 1" ∷ "=> no message: no clause fires" ∷ [])
unfolding is_written_bare digits
second_condition = refl
