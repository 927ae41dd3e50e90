-- Two answers to one question in the words of a fun.
use Rattle.std.proofs.Common.{◌≡◌, ◌∙◌, ℕ, List, Result, Ok, Err, MatchResult, refl, sym, ap, subst}
use Rattle.std.specs.declared.vec.Vec.{Vec}
use Rattle.def_explain.specs.Texts.{spec_test_text}
use Rattle.def_fun_words.specs.Words.{words_of_text}
use Rattle.def_fun_words.specs.WordTexts.{fun_test_text}
use Rattle.tn_fun_words.specs.FunAnswers.{IsFunAnswerTo}
use Rattle.tn_verdict.specs.SpecTestInputs.{context_of, IsAnswerTo, IsNoAnswer}
use Rattle.tn_verdict.specs.declared.spec_test_input.SpecTestInput.{SpecTestInput}
use Rattle.tn_verdict.specs.declared.spec_test_input.SpecTestFault.{SpecTestFault}
use Rattle.complete_code.specs.SpecTestAnswers.{IsSpecTestRefused, AreAnsweredAlike}
use Rattle.complete_code.proofs.SpecTestAnswers.{one_list, one_caller, one_specification, answer_or_fault, one_reason}

-- the same list, caller and specification have an answer in the words of the specification
plain_answer : (q : SpecTestInput) (source t : List ℕ) (x : IsFunAnswerTo q source t) → IsAnswerTo q (spec_test_text x.spec.dialect x.spec.clauses (context_of q x.elements x.caller))
plain_answer q source t x = record {
  elements = x.elements;
  caller = x.caller;
  spec = x.spec;
  of_list = x.of_list;
  of_caller = x.of_caller;
  of_spec = x.of_spec;
  reported = refl;
}

one_text : (q : SpecTestInput) (source t u : List ℕ) → IsFunAnswerTo q source t → IsFunAnswerTo q source u → t ≡ u
one_text q source t u x y =
    x.reported
    ∙ ap (λ s. fun_test_text (words_of_text source) s.dialect s.clauses (context_of q x.elements x.caller)) (one_specification q.spec.now q.dialect x.spec y.spec x.of_spec y.of_spec)
    ∙ ap (λ ts. fun_test_text (words_of_text source) y.spec.dialect y.spec.clauses (context_of q ts x.caller)) (one_list q.list.now x.elements y.elements x.of_list y.of_list)
    ∙ ap (λ f. fun_test_text (words_of_text source) y.spec.dialect y.spec.clauses (context_of q y.elements f)) (one_caller q.caller x.caller y.caller x.of_caller y.of_caller)
    ∙ sym y.reported

text_or_fault : {A : Type 0} (q : SpecTestInput) (source t : List ℕ) (f : SpecTestFault A) → IsFunAnswerTo q source t → IsNoAnswer q f → IsSpecTestRefused f
text_or_fault q source t f x y = answer_or_fault q (spec_test_text x.spec.dialect x.spec.clauses (context_of q x.elements x.caller)) f (plain_answer q source t x) y

-- of two texts that are equal
pub worded_alike : {A : Type 0} (q : SpecTestInput) (source other : List ℕ) (a b : Result (Vec ℕ A) (SpecTestFault A)) → source ≡ other → MatchResult a (λ v. IsFunAnswerTo q source v.items) (λ f. IsNoAnswer q f)
    → MatchResult b (λ v. IsFunAnswerTo q other v.items) (λ f. IsNoAnswer q f) → AreAnsweredAlike a b
worded_alike q source other (Ok v) (Ok w) same x y = one_text q other v.items w.items (subst (λ s. IsFunAnswerTo q s v.items) same x) y
worded_alike q source other (Ok v) (Err f) same x y = text_or_fault q source v.items f x y
worded_alike q source other (Err e) (Ok w) same x y = text_or_fault q other w.items e y x
worded_alike q source other (Err e) (Err f) same x y = one_reason q e f x y
