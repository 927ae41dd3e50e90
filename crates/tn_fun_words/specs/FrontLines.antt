-- The lines of a test up to the message, and the lines after them, which have no other words in a fun.
use Rattle.std.specs.Prelude.{ℕ, suc, List, [], ◌∷◌, ◌++◌, map, flat_map, Option, codes}
use Rattle.def_term.specs.Tree.{Tree}
use Rattle.def_term.specs.Names.{Name}
use Rattle.def_term.specs.Text.{w}
use Rattle.def_spec.specs.Matching.{Bindings}
use Rattle.def_spec.specs.Expressions.{Dialect, Context, Effect}
use Rattle.def_spec.specs.Outcome.{Clause}
use Rattle.def_explain.specs.Verdicts.{Verdict, fails, fires, verdict_of}
use Rattle.def_fun_words.specs.Words.{ClauseWords}
use Rattle.def_fun_words.specs.WordTexts.{TestLine, line_in, test_line_text, failed_line, fired_clause_line, bound_line, plain_line, lines_of_message, variable_words, name_numbered}
use Rattle.tn_spec.specs.Views.{dialect_of, clause_seen}
use Rattle.tn_spec.specs.declared.spec.Spec.{Spec}
use Rattle.tn_action.specs.Views.{context_seen}
use Rattle.tn_action.specs.declared.context.Context as code

-- the line of a binding, by the names of variables
abbrev pub named_line : List Name → ℕ × Tree → List ℕ
named_line ns b = codes "  " ++ variable_words (name_numbered ns b.0) b.0 ++ (codes " is " ++ w b.1) ++ 10 ∷ []

-- the variables of a condition, by their names
abbrev pub named_bound : List Name → List ℕ → Bindings → List ℕ
named_bound ns between [] = []
named_bound ns between (p ∷ ps) = between ++ variable_words (name_numbered ns p.0) p.0 ++ codes " is " ++ w p.1 ++ named_bound ns (codes ", ") ps

-- the lines of a clause that fires, up to the message
abbrev pub fired_lines_text : Option ClauseWords → ℕ → Bindings → List Effect → List ℕ
fired_lines_text ws n b es = line_in ws (fired_clause_line n es) ++ flat_map (λ e. line_in ws (bound_line n e)) b

-- of a clause and, where it doesn't fire, those after it
abbrev pub test_front_lines : ℕ → Verdict → List TestLine → List TestLine
test_front_lines n (fails r) rest = failed_line n r ∷ rest
test_front_lines n (fires b es) rest = fired_clause_line n es ∷ map (bound_line n) b

-- of the clauses after so many
abbrev pub test_front_after : Dialect → ℕ → List Clause → Context → List TestLine
test_front_after d n [] c = []
test_front_after d n (k ∷ ks) c = test_front_lines n (verdict_of d k c) (test_front_after d (suc n) ks c)

-- the lines from the message on
abbrev pub test_end_lines : Dialect → Clause → Context → ℕ → Verdict → List TestLine → List TestLine
test_end_lines d k c n (fails r) rest = rest
test_end_lines d k c n (fires b es) rest = lines_of_message d k c n b es

-- of the clauses after so many
abbrev pub test_end_after : Dialect → ℕ → List Clause → Context → List TestLine
test_end_after d n [] c = plain_line n (codes "=> no message: no clause fires") ∷ []
test_end_after d n (k ∷ ks) c = test_end_lines d k c n (verdict_of d k c) (test_end_after d (suc n) ks c)

-- the text up to the message
abbrev pub test_front_text : List ClauseWords → Dialect → ℕ → List Clause → Context → List ℕ
test_front_text ws d n ks c = flat_map (test_line_text ws) (test_front_after d n ks c)

-- of a specification of the code
abbrev pub test_front_text_in : {A : Type 0} → List ClauseWords → Spec A → code.Context A → List ℕ
test_front_text_in ws s c = test_front_text ws (dialect_of s.dialect) 0 (map clause_seen s.clauses.items) (context_seen c)
