-- What is promised of funs that are read and of funs that are printed (own).
-- Depends on the grammar, reading, limits, translation, answers and printing, and on def_spec's and def_text's words for a specification and its limits.
use Rattle.std.specs.Prelude.{◌≡◌, ℕ, ◌≤◌, List, length, Ok, true}
use Rattle.def_term.specs.Tree.{Tree}
use Rattle.def_term.specs.Text.{w}
use Rattle.def_text.specs.Limits.{DEPTH, Fits}
use Rattle.def_text.specs.Spelling.{LENGTH}
use Rattle.def_text.specs.Writable.{is_writable}
use Rattle.def_spec.specs.Expressions.{Dialect}
use Rattle.def_spec.specs.Outcome.{Spec}
use Rattle.def_spec.specs.Reading.{spec_of}
use Rattle.def_fun.specs.Tokens.{FunSpan}
use Rattle.def_fun.specs.Trees.{FunClause}
use Rattle.def_fun.specs.Grammar.{DerivesFun}
use Rattle.def_fun.specs.Limits.{FunFits}
use Rattle.def_fun.specs.Reading.{read_fun}
use Rattle.def_fun.specs.Translation.{tree_of_fun}
use Rattle.def_fun.specs.Answers.{spec_of_text}
use Rattle.def_fun.specs.FunTexts.{fun_printed}

-- ---- reading

-- a fun that the tokens spell within the limits is read
abbrev pub DerivedFunIsRead : Type 0
DerivedFunIsRead = (limit : ℕ) (xs : List FunSpan) (ks : List FunClause) → DerivesFun xs ks → FunFits limit true ks → read_fun limit true xs ≡ Ok ks

-- so within the limits they spell one at most
abbrev pub DerivedFunIsOne : Type 0
DerivedFunIsOne = (limit : ℕ) (xs : List FunSpan) (ks ls : List FunClause) → DerivesFun xs ks → FunFits limit true ks → DerivesFun xs ls → FunFits limit true ls → ks ≡ ls

-- ---- translation

-- the term of a fun that some tokens spell is a specification for the same dialect
abbrev pub FunIsASpecification : Type 0
FunIsASpecification = (d : Dialect) (xs : List FunSpan) (ks : List FunClause) (t : Tree) → DerivesFun xs ks → tree_of_fun d ks ≡ Ok t → (s : Spec) × (spec_of d t ≡ Ok s)

-- ---- what is printed

-- the specification of a fun that some tokens spell is printed for the same dialect
abbrev pub FunIsPrinted : Type 0
FunIsPrinted = (d : Dialect) (xs : List FunSpan) (ks : List FunClause) (t : Tree) → DerivesFun xs ks → tree_of_fun d ks ≡ Ok t → (text : List ℕ) × (fun_printed d t ≡ Ok text)

-- so is that of a text
abbrev pub TextIsPrinted : Type 0
TextIsPrinted = (d : Dialect) (bytes : List ℕ) (t : Tree) → spec_of_text d bytes ≡ Ok t → (text : List ℕ) × (fun_printed d t ≡ Ok text)

-- ---- and what that has

-- what a specification within the limits is printed as is the text of a fun that has it
abbrev pub PrintedIsAFun : Type 0
PrintedIsAFun =
    (d : Dialect) (t : Tree) (s : Spec) (text : List ℕ) → spec_of d t ≡ Ok s → is_writable t ≡ true → Fits DEPTH true t → length (w t) ≤ LENGTH → fun_printed d t ≡ Ok text → length text ≤ LENGTH → spec_of_text d text ≡ Ok t

-- no longer text has a specification, nor has any text one whose written text is longer
abbrev pub TextsAreShort : Type 0
TextsAreShort = (d : Dialect) (bytes : List ℕ) (t : Tree) → spec_of_text d bytes ≡ Ok t → (length bytes ≤ LENGTH) × (length (w t) ≤ LENGTH)
