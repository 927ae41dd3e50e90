-- The text of a test of a match specification, in the words of the specification or in those of its fun (own).
-- Depends on the words of a fun, on verdicts and on the texts of `spec`. One value has both texts: the parts of the lines, of which some have other words in a fun.
use Rattle.std.specs.Prelude.{ℕ, zero, suc, List, [], ◌∷◌, ◌++◌, map, flat_map, slice_get, Option, Some, None, codes, decimal}
use Rattle.def_term.specs.Tree.{Tree}
use Rattle.def_term.specs.Names.{Name}
use Rattle.def_term.specs.Text.{w, atom_text}
use Rattle.def_spec.specs.Matching.{Bindings}
use Rattle.def_spec.specs.Expressions.{Dialect, Context, Effect}
use Rattle.def_spec.specs.Outcome.{Clause}
use Rattle.def_explain.specs.Mismatches.{is_bound, mismatch}
use Rattle.def_explain.specs.Heads.{HeadReason, after_matching}
use Rattle.def_explain.specs.Reasons.{ConditionReason, has_value, faults_at, Reason, by_head, by_condition}
use Rattle.def_explain.specs.ReasonTexts.{found_text}
use Rattle.def_explain.specs.Verdicts.{Verdict, fails, fires, verdict_of}
use Rattle.def_explain.specs.Differences.{on_node}
use Rattle.def_explain.specs.Texts.{head_reason_text, condition_reason_text, effects_text, end_text, fires_differences}
use Rattle.def_fun_words.specs.Words.{ClauseWords}

-- ---- parts of lines

-- a part of a line: a text; the clause after so many; of it the condition after so many, and the variable of that number
pub data LinePart : Type 0 where
  plain : List ℕ → LinePart
  clause_after : ℕ → LinePart
  condition_after : ℕ → LinePart
  numbered : ℕ → LinePart

-- a line about the clause after so many
pub record TestLine : Type 0 where
  pub clause : ℕ
  pub parts : List LinePart

-- ---- the words

-- ` (line L)`, where there are words
abbrev pub place_words : Option ClauseWords → List ℕ
place_words None = []
place_words (Some ws) = codes " (line " ++ decimal ws.line ++ codes ")"

-- `guard TEXT`, or `condition K` where there is no text
abbrev pub condition_words : Option (List ℕ) → ℕ → List ℕ
condition_words None k = codes "condition " ++ decimal (suc k)
condition_words (Some text) k = codes "guard " ++ text

-- the name, or '$K' where there is none
abbrev pub variable_words : Option Name → ℕ → List ℕ
variable_words None k = atom_text (36 ∷ decimal k)
variable_words (Some name) k = name

-- the text of a condition
abbrev pub condition_named : Option ClauseWords → ℕ → Option (List ℕ)
condition_named None k = None
condition_named (Some ws) k = slice_get ws.conditions k

-- the name of that number, from 1
abbrev pub name_numbered : List Name → ℕ → Option Name
name_numbered ns zero = None
name_numbered ns (suc k) = slice_get ns k

-- of the words
abbrev pub variable_named : Option ClauseWords → ℕ → Option Name
variable_named None k = None
variable_named (Some ws) k = name_numbered ws.names k

-- a part in these words
abbrev pub line_part_text : Option ClauseWords → LinePart → List ℕ
line_part_text ws (plain s) = s
line_part_text ws (clause_after n) = codes "clause " ++ decimal (suc n) ++ place_words ws
line_part_text ws (condition_after k) = condition_words (condition_named ws k) k
line_part_text ws (numbered k) = variable_words (variable_named ws k) k

-- several, one after the other
abbrev pub line_parts_text : Option ClauseWords → List LinePart → List ℕ
line_parts_text ws ps = flat_map (line_part_text ws) ps

-- a line in these words
abbrev pub line_in : Option ClauseWords → TestLine → List ℕ
line_in ws l = line_parts_text ws l.parts ++ 10 ∷ []

-- in those of its clause
abbrev pub test_line_text : List ClauseWords → TestLine → List ℕ
test_line_text ws l = line_in (slice_get ws l.clause) l

-- ---- the lines of a test

-- a head that differs at a variable says which it is; any other reason has no other words
abbrev pub head_parts : HeadReason → List LinePart
head_parts (after_matching n (mismatch place (is_bound k t) v)) =
    plain (codes "the head doesn't match at element " ++ decimal (suc n) ++ flat_map (λ m. codes ", element " ++ decimal (suc m)) place ++ codes ": ")
    ∷ numbered k ∷ plain (codes " is " ++ w t ++ found_text v) ∷ []
head_parts h = plain (head_reason_text h) ∷ []

-- the variables of a condition with what they are bound to: a colon before the first and a comma before each other
abbrev pub bound_parts : List ℕ → Bindings → List LinePart
bound_parts between [] = []
bound_parts between (p ∷ ps) = plain between ∷ numbered p.0 ∷ plain (codes " is " ++ w p.1) ∷ bound_parts (codes ", ") ps

-- the value of a condition, with its variables, or the part of it that faults
abbrev pub condition_parts : ConditionReason → List LinePart
condition_parts (has_value t bound) = plain (codes " is " ++ w t) ∷ bound_parts (codes ": ") bound
condition_parts (faults_at e) = plain (condition_reason_text (faults_at e)) ∷ []

-- why a clause doesn't fire
abbrev pub reason_parts : Reason → List LinePart
reason_parts (by_head h) = head_parts h
reason_parts (by_condition k r) = condition_after k ∷ condition_parts r

-- the line of a clause that doesn't
abbrev pub failed_line : ℕ → Reason → TestLine
failed_line n r = record { clause = n; parts = clause_after n ∷ plain (codes ": ") ∷ reason_parts r }

-- that of one that does, with what its body asks for
abbrev pub fired_clause_line : ℕ → List Effect → TestLine
fired_clause_line n es = record { clause = n; parts = clause_after n ∷ plain (codes " fires" ++ effects_text es) ∷ [] }

-- a variable and its value
abbrev pub bound_line : ℕ → ℕ × Tree → TestLine
bound_line n b = record { clause = n; parts = plain (codes "  ") ∷ numbered b.0 ∷ plain (codes " is " ++ w b.1) ∷ [] }

-- a line without other words
abbrev pub plain_line : ℕ → List ℕ → TestLine
plain_line n s = record { clause = n; parts = plain s ∷ [] }

-- the message, and what a node does otherwise
abbrev pub lines_of_message : Dialect → Clause → Context → ℕ → Bindings → List Effect → List TestLine
lines_of_message d k c n b es = plain_line n (codes "=> " ++ end_text d c.self_pid es) ∷ map (λ x. plain_line n (on_node x)) (fires_differences d k b c es)

-- a clause that fires, its bindings by rising number, the message, and what a node does otherwise
abbrev pub fires_lines : Dialect → Clause → Context → ℕ → Bindings → List Effect → List TestLine
fires_lines d k c n b es = fired_clause_line n es ∷ (map (bound_line n) b ++ lines_of_message d k c n b es)

-- a clause and, where it doesn't fire, those after it
abbrev pub verdict_lines : Dialect → Clause → Context → ℕ → Verdict → List TestLine → List TestLine
verdict_lines d k c n (fails r) rest = failed_line n r ∷ rest
verdict_lines d k c n (fires b es) rest = fires_lines d k c n b es

-- the clauses after so many, up to the first that fires
abbrev pub test_lines_after : Dialect → ℕ → List Clause → Context → List TestLine
test_lines_after d n [] c = plain_line n (codes "=> no message: no clause fires") ∷ []
test_lines_after d n (k ∷ ks) c = verdict_lines d k c n (verdict_of d k c) (test_lines_after d (suc n) ks c)

-- of all clauses
abbrev pub test_lines : Dialect → List Clause → Context → List TestLine
test_lines d ks c = test_lines_after d 0 ks c

-- the text of a test in the words of a fun
abbrev pub fun_test_text : List ClauseWords → Dialect → List Clause → Context → List ℕ
fun_test_text ws d ks c = flat_map (test_line_text ws) (test_lines d ks c)
