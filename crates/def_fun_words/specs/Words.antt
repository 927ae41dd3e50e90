-- The words of a fun for the clauses of its specification: the lines of its clauses, the texts of its guards, and the names of its variables (own).
-- Depends on the fun's tokens, its tree, its names and its translation. "Match Specifications in Erlang" has conditions and '$1' where a fun has guards and names.
use Rattle.std.specs.Prelude.{ℕ, suc, ◌-◌, ◌==◌, ◌&&◌, List, [], ◌∷◌, ◌++◌, take, drop, map, flat_map, Bool, true, false, if◌then◌else◌, Ok, Err}
use Rattle.def_term.specs.Names.{Name}
use Rattle.def_text.specs.Places.{place_at}
use Rattle.def_fun.specs.Tokens as token
use Rattle.def_fun.specs.Tokens.{FunToken, FunSpan}
use Rattle.def_fun.specs.Scan.{fun_spans}
use Rattle.def_fun.specs.Trees.{FunExpr, first_byte, FunClause}
use Rattle.def_fun.specs.Variables.{names_of}
use Rattle.def_fun.specs.Translation.{alternatives_of}
use Rattle.def_fun.specs.Refusals.{OrRefusal}
use Rattle.def_fun.specs.Answers.{fun_of_text}

-- ---- the texts of conditions

-- how many brackets are open after a token, of so many before it
abbrev pub open_after : ℕ → FunToken → ℕ
open_after n token.open_paren = suc n
open_after n token.open_bracket = suc n
open_after n token.open_brace = suc n
open_after n token.close_paren = n - 1
open_after n token.close_bracket = n - 1
open_after n token.close_brace = n - 1
open_after n t = n

-- a `,`, a `;` or `->`
abbrev pub is_separator : FunToken → Bool
is_separator token.comma = true
is_separator token.semicolon = true
is_separator token.arrow = true
is_separator t = false

-- a condition ends before one that is in no bracket
abbrev pub is_condition_end : ℕ → FunToken → Bool
is_condition_end n t = (n == 0) && is_separator t

-- the tokens of the condition that is in front, where so many brackets are open
abbrev pub condition_in_front : ℕ → List FunSpan → List FunSpan
condition_in_front n [] = []
condition_in_front n (x ∷ xs) = if is_condition_end n x.token then [] else x ∷ condition_in_front (open_after n x.token) xs

-- the tokens from the one at that offset on
abbrev pub spans_at : ℕ → List FunSpan → List FunSpan
spans_at at [] = []
spans_at at (x ∷ xs) = if x.from == at then x ∷ xs else spans_at at xs

-- the bytes of a token
abbrev pub span_bytes : List ℕ → FunSpan → List ℕ
span_bytes text x = take (x.to - x.from) (drop x.from text)

-- a blank where a token isn't right after the one that ended there
abbrev pub blank_between : ℕ → ℕ → List ℕ
blank_between end from = if end == from then [] else 32 ∷ []

-- the tokens as they are, each with one blank before it where blanks or comments are between it and the one before
abbrev pub spaced_after : List ℕ → ℕ → List FunSpan → List ℕ
spaced_after text end [] = []
spaced_after text end (x ∷ xs) = blank_between end x.from ++ span_bytes text x ++ spaced_after text x.to xs

-- the text of a condition of a guard
abbrev pub condition_text : List ℕ → FunExpr → List ℕ
condition_text text e = spaced_after text (first_byte e) (condition_in_front 0 (spans_at (first_byte e) (fun_spans text)))

-- ---- the words of a clause

-- the line of the `(` of the fun's clause, the texts of its conditions, and the names of its variables in the order of their numbers
pub record ClauseWords : Type 0 where
  pub line : ℕ
  pub conditions : List (List ℕ)
  pub names : List Name

-- those of the clause of the specification that one guard of the fun's clause is
abbrev pub guard_words : List ℕ → FunClause → List FunExpr → ClauseWords
guard_words text k g = record { line = (place_at text k.at).line; conditions = map (condition_text text) g; names = (names_of k.head).numbers }

-- those of the clauses of the specification that the fun's clause is
abbrev pub clause_words : List ℕ → FunClause → List ClauseWords
clause_words text k = map (guard_words text k) (alternatives_of k.guards)

-- those of all clauses of the specification, in their order
abbrev pub words_of_fun : List ℕ → List FunClause → List ClauseWords
words_of_fun text ks = flat_map (clause_words text) ks

-- those of a text that is a fun
abbrev pub words_or_none : List ℕ → OrRefusal (List FunClause) → List ClauseWords
words_or_none text (Ok ks) = words_of_fun text ks
words_or_none text (Err r) = []

-- of any text
abbrev pub words_of_text : List ℕ → List ClauseWords
words_of_text text = words_or_none text (fun_of_text text)
