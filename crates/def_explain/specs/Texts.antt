-- The text of a test of a match specification: what becomes of its clauses on one list (own).
-- Depends on verdicts, on the texts of terms and on what a message's last element is.
use Rattle.std.specs.Prelude.{ℕ, suc, Bool, true, false, ◌&&◌, if◌then◌else◌, List, [], ◌∷◌, ◌++◌, flat_map, replicate, Option, Some, None, codes, decimal}
use Rattle.def_term.specs.Tree.{Tree}
use Rattle.def_term.specs.Order.{same}
use Rattle.def_term.specs.Names.{Name, word}
use Rattle.def_term.specs.Alive.{PROCESSES}
use Rattle.def_term.specs.Text.{w, atom_text, pid_text}
use Rattle.def_spec.specs.Flags.{Flag, Flags, send_flag, receive_flag, call_flag, no_flags, only, FlagTable, with_flags_in, flags_by_name}
use Rattle.def_spec.specs.Matching.{Bindings}
use Rattle.def_spec.specs.Expressions.{Dialect, for_calls, for_sends, for_receives, Context, Effect, gives_message, traces_return, traces_exception, silences, changes}
use Rattle.def_spec.specs.Outcome.{Clause}
use Rattle.def_session.specs.Messages.{last_message}
use Rattle.def_explain.specs.Mismatches.{HeadPart, is_term, is_bound, is_tuple_of, is_list_of, Mismatch, mismatch}
use Rattle.def_explain.specs.Heads.{HeadReason, no_list, other_length, after_matching}
use Rattle.def_explain.specs.Reasons.{ConditionReason, has_value, faults_at, Reason, by_head, by_condition}
use Rattle.def_explain.specs.ReasonTexts.{found_text}
use Rattle.def_explain.specs.Spellings.{spelling}
use Rattle.def_explain.specs.Verdicts.{Verdict, fails, fires, verdict_of}
use Rattle.def_explain.specs.Differences.{Difference, later_silent, clause_differences, test_differences, on_node}

-- ---- flags

-- the flag without which the specification isn't evaluated
abbrev pub flag_of_dialect : Dialect → Flag
flag_of_dialect for_calls = call_flag
flag_of_dialect for_sends = send_flag
flag_of_dialect for_receives = receive_flag

-- in a test the process has this flag alone, and no other process has any
abbrev pub spec_test_flags : Dialect → ℕ → FlagTable
spec_test_flags d self_pid = with_flags_in (replicate PROCESSES no_flags) self_pid (only (flag_of_dialect d))

-- ---- reasons

-- a variable and the term that it is bound to
abbrev pub bound_text : ℕ × Tree → List ℕ
bound_text p = atom_text (36 ∷ decimal p.0) ++ codes " is " ++ w p.1

-- what a head has at a place
abbrev pub head_part_text : HeadPart → List ℕ
head_part_text (is_term t) = w t ++ codes " expected"
head_part_text (is_bound n t) = bound_text (n, t)
head_part_text (is_tuple_of n) = codes "a tuple of " ++ decimal n ++ codes " expected"
head_part_text (is_list_of n) = codes "a list of " ++ decimal n ++ codes " expected"

-- the numbers of elements down to the place, from 1, then what the head has there, and the term
abbrev pub mismatch_text : Mismatch → List ℕ
mismatch_text (mismatch place h t) = flat_map (λ n. codes ", element " ++ decimal (suc n)) place ++ codes ": " ++ head_part_text h ++ found_text t

-- elements are counted from 1
abbrev pub head_reason_text : HeadReason → List ℕ
head_reason_text no_list = codes "the head doesn't match"
head_reason_text other_length = codes "the head has another number of elements"
head_reason_text (after_matching n m) = codes "the head doesn't match at element " ++ decimal (suc n) ++ mismatch_text m

-- those of a condition, after its value: with a colon before the first and a comma before each other
abbrev pub bound_texts : List ℕ → Bindings → List ℕ
bound_texts between [] = []
bound_texts between (p ∷ ps) = between ++ bound_text p ++ bound_texts (codes ", ") ps

-- the value that a condition has, with its variables, or the part of it that faults
abbrev pub condition_reason_text : ConditionReason → List ℕ
condition_reason_text (has_value t bound) = codes " is " ++ w t ++ bound_texts (codes ": ") bound
condition_reason_text (faults_at e) = codes " faults at " ++ w (spelling e)

-- conditions are counted from 1
abbrev pub reason_text : Reason → List ℕ
reason_text (by_head h) = head_reason_text h
reason_text (by_condition n r) = codes "condition " ++ decimal (suc n) ++ condition_reason_text r

-- ---- effects

-- the flags of a set, each after a verb
abbrev pub said_of_each : List ℕ → Flags → List (Name × Flag) → List ℕ
said_of_each verb fs [] = []
said_of_each verb fs (e ∷ es) = (if fs e.1 then verb ++ atom_text e.0 else []) ++ said_of_each verb fs es

-- the flag `silent` that an effect sets or clears
abbrev pub silent_text : Bool → List ℕ
silent_text true = codes "silent true"
silent_text false = codes "silent false"

-- a change may name no flag
abbrev pub said_of_flags : List ℕ → List ℕ
said_of_flags [] = codes " keeps its flags"
said_of_flags (b ∷ bs) = b ∷ bs

-- what an effect asks for
abbrev pub effect_text : Effect → List ℕ
effect_text (gives_message t) = codes "message " ++ w t
effect_text traces_return = codes "return_trace"
effect_text traces_exception = codes "exception_trace"
effect_text (silences b) = silent_text b
effect_text (changes n off on) = pid_text n ++ said_of_flags (said_of_each (codes " loses ") off flags_by_name ++ said_of_each (codes " gets ") on flags_by_name)

-- with a comma between any two, after a colon
abbrev pub effects_text : List Effect → List ℕ
effects_text [] = []
effects_text (e ∷ es) = codes ": " ++ effect_text e ++ flat_map (λ x. codes ", " ++ effect_text x) es

-- ---- clauses

-- '$N' is T
abbrev pub binding_line : ℕ × Tree → List ℕ
binding_line e = codes "  " ++ atom_text (36 ∷ decimal e.0) ++ codes " is " ++ w e.1 ++ 10 ∷ []

-- clauses are counted from 1
abbrev pub clause_text : ℕ → List ℕ → List ℕ
clause_text n rest = codes "clause " ++ decimal (suc n) ++ rest

-- `silent` is about calls alone
abbrev pub is_for_calls : Dialect → Bool
is_for_calls for_calls = true
is_for_calls for_sends = false
is_for_calls for_receives = false

-- `false` is no message, `true` adds nothing, and any other term is the last element
abbrev pub ending_text : Option Tree → List ℕ
ending_text None = codes "a message"
ending_text (Some t) =
    if same t (word "true") then codes "a message" else
    if same t (word "false") then codes "no message: it is false" else
    (codes "a message that ends in " ++ w t)

-- what these effects make of the message
abbrev pub end_text : Dialect → ℕ → List Effect → List ℕ
end_text d self_pid es = if is_for_calls d && later_silent self_pid false es then codes "no message: silent" else ending_text (last_message es)

-- what a node does otherwise
abbrev pub difference_line : Difference → List ℕ
difference_line x = on_node x ++ 10 ∷ []

-- what a node does otherwise at a clause that fires, in a session and in a test
abbrev pub fires_differences : Dialect → Clause → Bindings → Context → List Effect → List Difference
fires_differences d k b c es = clause_differences d k b c es ++ test_differences d c es

-- a clause that fires in this context, its bindings by rising number, the message, and what a node does otherwise
abbrev pub fires_text : Dialect → Clause → Context → ℕ → Bindings → List Effect → List ℕ
fires_text d k c n b es =
    clause_text n (codes " fires" ++ effects_text es ++ 10 ∷ flat_map binding_line b ++ codes "=> " ++ end_text d c.self_pid es ++ 10 ∷ flat_map difference_line (fires_differences d k b c es))

-- a clause and, where it doesn't fire, those after it
abbrev pub verdict_text : Dialect → Clause → Context → ℕ → Verdict → List ℕ → List ℕ
verdict_text d k c n (fails r) behind = clause_text n (codes ": " ++ reason_text r ++ 10 ∷ behind)
verdict_text d k c n (fires b es) behind = fires_text d k c n b es

-- the clauses after so many, up to the first that fires
abbrev pub spec_test_text_after : Dialect → ℕ → List Clause → Context → List ℕ
spec_test_text_after d n [] c = codes "=> no message: no clause fires" ++ 10 ∷ []
spec_test_text_after d n (k ∷ ks) c = verdict_text d k c n (verdict_of d k c) (spec_test_text_after d (suc n) ks c)

-- of all clauses
abbrev pub spec_test_text : Dialect → List Clause → Context → List ℕ
spec_test_text d ks c = spec_test_text_after d 0 ks c
