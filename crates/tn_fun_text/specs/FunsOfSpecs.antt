-- What the text of a specification answers: its fun (own).
-- Depends on the terms that texts spell, on specifications, and on the texts of funs.
use Rattle.std.specs.Prelude.{◌≡◌, ℕ, List, [], ◌∷◌, ◌++◌, Ok, Err}
use Rattle.def_term.specs.Tree.{Tree}
use Rattle.def_text.specs.Spelling.{Spells}
use Rattle.def_spec.specs.Outcome.{Spec}
use Rattle.def_spec.specs.Reading.{spec_of}
use Rattle.def_fun.specs.FunTexts.{NoFun, fun_printed, no_fun_line}
use Rattle.tn_spec.specs.Readings.{IsFaultIn}
use Rattle.tn_spec.specs.Views.{dialect_of}
use Rattle.tn_spec.specs.declared.func.Dialect.{Dialect}
use Rattle.tn_text.specs.Answers.{IsTextRefusal}
use Rattle.tn_fun_text.specs.declared.funs_of_specs.FunOfSpec.{FunOfSpec}
use Rattle.tn_fun_text.specs.declared.funs_of_specs.FunOfSpec.TheVariants as answers

-- this is the fun of the term, with a line feed
pub record HasFun (d : Dialect) (t : Tree) (output : List ℕ) : Type 0 where
  pub text : List ℕ
  pub printed : fun_printed (dialect_of d) t ≡ Ok text
  pub output_is : output ≡ text ++ 10 ∷ []

-- no fun has the term, as this line says
pub record HasNoFun (d : Dialect) (t : Tree) (line : List ℕ) : Type 0 where
  pub reason : NoFun
  pub printed : fun_printed (dialect_of d) t ≡ Err reason
  pub line_is : line ≡ no_fun_line reason

-- what a term answers that is a specification
abbrev pub IsFunOfTerm : {A : Type 0} → Dialect → Tree → FunOfSpec A → Type 0
IsFunOfTerm d t (answers.Fun text) = HasFun d t text.items
IsFunOfTerm d t (answers.NoFun line) = HasNoFun d t line.items
IsFunOfTerm d t (answers.NoTerm fault) = ⊥
IsFunOfTerm d t (answers.NoSpec fault) = ⊥

-- the term is a specification
abbrev pub IsSpec : Dialect → Tree → Type 0
IsSpec d t = (s : Spec) × (spec_of (dialect_of d) t ≡ Ok s)

-- what a term answers
abbrev pub IsFunOfAnyTerm : {A : Type 0} → Dialect → Tree → FunOfSpec A → Type 0
IsFunOfAnyTerm d t (answers.Fun text) = IsSpec d t × HasFun d t text.items
IsFunOfAnyTerm d t (answers.NoFun line) = IsSpec d t × HasNoFun d t line.items
IsFunOfAnyTerm d t (answers.NoTerm fault) = ⊥
IsFunOfAnyTerm d t (answers.NoSpec fault) = IsFaultIn d t fault

-- what a text answers: the term that it spells does so, or it spells none
abbrev pub IsFunOfSpec : {A : Type 0} → Dialect → List ℕ → FunOfSpec A → Type 0
IsFunOfSpec d bytes (answers.NoTerm fault) = IsTextRefusal bytes fault
IsFunOfSpec d bytes answer = (t : Tree) × Spells bytes t × IsFunOfAnyTerm d t answer
