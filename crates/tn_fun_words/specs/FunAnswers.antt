-- The answer of a test of a fun's specification in the fun's words.
use Rattle.std.specs.Prelude.{◌≡◌, ℕ, List, Option}
use Rattle.def_term.specs.Tree.{Tree}
use Rattle.def_term.specs.Names.{Mfa}
use Rattle.def_spec.specs.Outcome as outcome
use Rattle.def_fun_words.specs.Words.{words_of_text}
use Rattle.def_fun_words.specs.WordTexts.{fun_test_text}
use Rattle.tn_verdict.specs.declared.spec_test_input.SpecTestInput.{SpecTestInput}
use Rattle.tn_verdict.specs.SpecTestInputs.{IsList, caller_is, IsSpecification, context_of}

-- the text says what becomes of the clauses, in the words of the fun that the source is
pub record IsFunAnswerTo (q : SpecTestInput) (source text : List ℕ) : Type 0 where
  pub elements : List Tree
  pub caller : Option Mfa
  pub spec : outcome.Spec
  pub of_list : IsList q.list.now elements
  pub of_caller : caller_is q.caller caller
  pub of_spec : IsSpecification q.spec.now q.dialect spec
  pub reported : text ≡ fun_test_text (words_of_text source) spec.dialect spec.clauses (context_of q elements caller)
