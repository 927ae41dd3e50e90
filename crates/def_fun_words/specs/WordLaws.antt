-- What is promised of the words of funs (own).
-- Depends on the words, the texts, the names and the limits of funs, and the texts of `spec`.
use Rattle.std.specs.Prelude.{◌≡◌, ℕ, List, [], length, Some}
use Rattle.def_term.specs.Names.{Name}
use Rattle.def_spec.specs.Expressions.{Dialect, Context}
use Rattle.def_spec.specs.Outcome.{Clause}
use Rattle.def_explain.specs.Texts.{spec_test_text}
use Rattle.def_fun.specs.Trees.{FunClause, FunHead}
use Rattle.def_fun.specs.Limits.{spec_clauses}
use Rattle.def_fun.specs.Variables.{names_of, number_among}
use Rattle.def_fun_words.specs.Words.{words_of_fun}
use Rattle.def_fun_words.specs.WordTexts.{fun_test_text, name_numbered}

-- the lines without a fun's words are those of `spec`
abbrev pub LinesAreThoseOfSpec : Type 0
LinesAreThoseOfSpec = (d : Dialect) (ks : List Clause) (c : Context) → fun_test_text [] d ks c ≡ spec_test_text d ks c

-- each clause of the specification has words
abbrev pub EachClauseHasWords : Type 0
EachClauseHasWords = (text : List ℕ) (ks : List FunClause) → length (words_of_fun text ks) ≡ spec_clauses ks

-- the name of a number is the variable that the specification has with that number
abbrev pub NamesAreOfTheirNumbers : Type 0
NamesAreOfTheirNumbers = (h : FunHead) (s : Name) (k : ℕ) → number_among 1 (names_of h).numbers s ≡ Some k → name_numbered (names_of h).numbers k ≡ Some s
