-- Two answers to one question.
use Rattle.std.proofs.Common.{◌≡◌, ◌∙◌, ◌⊎◌, inl, inr, ℕ, List, map, Option, Some, None, Result, Ok, Err, MatchResult, refl, sym, ap, subst, arith}
use Rattle.std.specs.Borrow.{Bor}
use Rattle.std.specs.declared.vec.Vec.{Vec}
use Rattle.def_term.specs.Tree.{Tree, list, elements, of_elements}
use Rattle.def_term.specs.Names.{Mfa, mfa_term}
use Rattle.def_text.specs.Faults.{misplaced, too_deep, too_large}
use Rattle.def_text.specs.Spelling.{Spells}
use Rattle.def_text.proofs.One.{one, refused}
use Rattle.def_text.proofs.Either.{once}
use Rattle.def_spec.specs.Outcome as outcome
use Rattle.def_spec.specs.Reading.{spec_of}
use Rattle.def_explain.specs.Places.{stop_of}
use Rattle.def_explain.specs.Texts.{spec_test_text}
use Rattle.tn_term.specs.Views.{tree_of}
use Rattle.tn_term.proofs.Views.{elements-of_elements}
use Rattle.tn_text.specs.Answers.{IsTextRefusal}
use Rattle.tn_text.specs.declared.fault.TextFault.{TextFault}
use Rattle.tn_text.specs.declared.fault.TextFault.TheVariants as texts
use Rattle.tn_spec.specs.Readings.{IsFaultIn, IsTooLarge, FaultAgreesWithSize}
use Rattle.tn_spec.specs.Views.{dialect_of}
use Rattle.tn_spec.specs.Wholes.{spec_seen}
use Rattle.tn_spec.specs.declared.fault.SpecFault.{SpecFault}
use Rattle.tn_spec.specs.declared.fault.SpecFault.TheVariants as specs
use Rattle.tn_spec.specs.declared.func.Dialect.{Dialect}
use Rattle.tn_verdict.specs.SpecTestInputs.{IsList, IsListFault, IsCallerFault, caller_is, HasCallerFault, mfas_seen, IsSpecification, IsSpecificationFault, AreTermsOf, context_of, IsAnswerTo, HasList, HasCaller, IsNoAnswer}
use Rattle.tn_verdict.specs.declared.spec_test_input.SpecTestInput.{SpecTestInput}
use Rattle.tn_verdict.specs.declared.spec_test_input.SpecTestTerms.{SpecTestTerms}
use Rattle.tn_verdict.specs.declared.spec_test_input.SpecTestFault.{SpecTestFault}
use Rattle.tn_verdict.specs.declared.spec_test_input.SpecTestFault.TheVariants.{List as OfList, NoList, Caller, NoCaller, Text, Spec, OutOfMemory}
use Rattle.tn_verdict.specs.SpecReasonTexts.{text_where_reason, TellsReason}
use Rattle.def_explain.specs.SpecReasons.{spec_reason}
use Rattle.complete_code.specs.SpecTestAnswers.{IsRefusedText, IsRefusedSpec, IsSpecTestRefused, AreAnsweredAlike, AreSameTerms, AreTermsAlike, AreToldAlike}

-- ---- texts

-- a text that spells a term isn't refused
not_refused : (bytes : List ℕ) (t : Tree) (f : TextFault) → Spells bytes t → IsTextRefusal bytes f → IsRefusedText f
not_refused bytes t texts.TooLong s r = absurd (omega (arith, s.short))
not_refused bytes t (texts.Token at) s r = absurd (refused bytes t misplaced at s r)
not_refused bytes t (texts.TooDeep at) s r = absurd (refused bytes t too_deep at s r)
not_refused bytes t (texts.TooLarge at) s r = absurd (refused bytes t too_large at s r)
not_refused bytes t texts.OutOfMemory s r = tt

-- and one that is, is refused in one way
one_refusal : (bytes : List ℕ) (e f : TextFault) → IsTextRefusal bytes e → IsTextRefusal bytes f → ¬ IsRefusedText e → ¬ IsRefusedText f → e ≡ f
one_refusal bytes texts.OutOfMemory f p q r s = absurd (r tt)
one_refusal bytes e texts.OutOfMemory p q r s = absurd (s tt)
one_refusal bytes texts.TooLong texts.TooLong p q r s = refl
one_refusal bytes texts.TooLong (texts.Token at) p q r s = absurd (omega (arith, p, q.short))
one_refusal bytes texts.TooLong (texts.TooDeep at) p q r s = absurd (omega (arith, p, q.short))
one_refusal bytes texts.TooLong (texts.TooLarge at) p q r s = absurd (omega (arith, p, q.short))
one_refusal bytes (texts.Token at) texts.TooLong p q r s = absurd (omega (arith, q, p.short))
one_refusal bytes (texts.TooDeep at) texts.TooLong p q r s = absurd (omega (arith, q, p.short))
one_refusal bytes (texts.TooLarge at) texts.TooLong p q r s = absurd (omega (arith, q, p.short))
one_refusal bytes (texts.Token at) (texts.Token there) p q r s = ap texts.Token (once bytes misplaced misplaced at there p q).1
one_refusal bytes (texts.TooDeep at) (texts.TooDeep there) p q r s = ap texts.TooDeep (once bytes too_deep too_deep at there p q).1
one_refusal bytes (texts.TooLarge at) (texts.TooLarge there) p q r s = ap texts.TooLarge (once bytes too_large too_large at there p q).1
one_refusal bytes (texts.Token at) (texts.TooDeep there) p q r s = let k = once bytes misplaced too_deep at there p q in absurd (cc)
one_refusal bytes (texts.Token at) (texts.TooLarge there) p q r s = let k = once bytes misplaced too_large at there p q in absurd (cc)
one_refusal bytes (texts.TooDeep at) (texts.Token there) p q r s = let k = once bytes too_deep misplaced at there p q in absurd (cc)
one_refusal bytes (texts.TooDeep at) (texts.TooLarge there) p q r s = let k = once bytes too_deep too_large at there p q in absurd (cc)
one_refusal bytes (texts.TooLarge at) (texts.Token there) p q r s = let k = once bytes too_large misplaced at there p q in absurd (cc)
one_refusal bytes (texts.TooLarge at) (texts.TooDeep there) p q r s = let k = once bytes too_large too_deep at there p q in absurd (cc)

-- ---- what each text is

pub one_list : (bytes : List ℕ) (ts us : List Tree) → IsList bytes ts → IsList bytes us → ts ≡ us
one_list bytes ts us p q =
    let e : list (of_elements ts) ≡ list (of_elements us) = one bytes _ _ p q in
    let f : of_elements ts ≡ of_elements us = cc in
    sym (elements-of_elements ts) ∙ ap elements f ∙ elements-of_elements us

one_function : (f g : Mfa) → mfa_term f ≡ mfa_term g → f ≡ g
one_function f g e =
    let of_module : f.module_name ≡ g.module_name = cc in
    let of_name : f.function_name ≡ g.function_name = cc in
    let of_arity : f.arity ≡ g.arity = cc in
    λ i. record { module_name = of_module i; function_name = of_name i; arity = of_arity i }

pub one_caller : (text : Option (Bor (List ℕ))) (f g : Option Mfa) → caller_is text f → caller_is text g → f ≡ g
one_caller None None None p q = refl
one_caller None None (Some g) p q = absurd q
one_caller None (Some f) g p q = absurd p
one_caller (Some bytes) None g p q = absurd p
one_caller (Some bytes) (Some f) None p q = absurd q
one_caller (Some bytes) (Some f) (Some g) p q = ap Some (one_function f g (one bytes.now _ _ p.0 q.0))

pub one_specification : (bytes : List ℕ) (d : Dialect) (s t : outcome.Spec) → IsSpecification bytes d s → IsSpecification bytes d t → s ≡ t
one_specification bytes d s t p q =
    let e : p.0 ≡ q.0 = one bytes p.0 q.0 p.1 q.1 in
    let read : spec_of (dialect_of d) q.0 ≡ Ok s = subst (λ u. spec_of (dialect_of d) u ≡ Ok s) e p.2 in
    let again : spec_of (dialect_of d) q.0 ≡ Ok t = q.2 in
    cc

pub one_text : (q : SpecTestInput) (t u : List ℕ) → IsAnswerTo q t → IsAnswerTo q u → t ≡ u
one_text q t u x y =
    x.reported
    ∙ ap (λ s. spec_test_text s.dialect s.clauses (context_of q x.elements x.caller)) (one_specification q.spec.now q.dialect x.spec y.spec x.of_spec y.of_spec)
    ∙ ap (λ ts. spec_test_text y.spec.dialect y.spec.clauses (context_of q ts x.caller)) (one_list q.list.now x.elements y.elements x.of_list y.of_list)
    ∙ ap (λ f. spec_test_text y.spec.dialect y.spec.clauses (context_of q y.elements f)) (one_caller q.caller x.caller y.caller x.of_caller y.of_caller)
    ∙ sym y.reported

-- ---- a text that is right has no fault

no_list_fault : {A : Type 0} (bytes : List ℕ) (ts : List Tree) (f : SpecTestFault A) → IsList bytes ts → IsListFault bytes f → IsSpecTestRefused f
no_list_fault bytes ts (OfList f) l p = not_refused bytes (list (of_elements ts)) f l p
no_list_fault bytes ts NoList l p = absurd (p.2 (of_elements ts) (one bytes p.0 (list (of_elements ts)) p.1 l))
no_list_fault bytes ts OutOfMemory l p = tt
no_list_fault bytes ts _ l p = absurd p

no_fault_of : {A : Type 0} (bytes : Bor (List ℕ)) (f : Option Mfa) (e : SpecTestFault A) → caller_is (Some bytes) f → IsCallerFault bytes.now e → IsSpecTestRefused e
no_fault_of bytes None e k p = absurd k
no_fault_of bytes (Some f) (Caller e) k p = not_refused bytes.now (mfa_term f) e k.0 p
no_fault_of bytes (Some f) NoCaller k p = absurd (p.2 f k.1 (one bytes.now p.0 (mfa_term f) p.1 k.0))
no_fault_of bytes (Some f) OutOfMemory k p = tt
no_fault_of bytes (Some f) _ k p = absurd p

no_caller_fault : {A : Type 0} (text : Option (Bor (List ℕ))) (f : Option Mfa) (e : SpecTestFault A) → caller_is text f → HasCallerFault text e → IsSpecTestRefused e
no_caller_fault text f e k p = no_fault_of p.0 f e (subst (λ t. caller_is t f) p.1 k) p.2

no_fault_in : {A : Type 0} (d : Dialect) (t : Tree) (s : outcome.Spec) (f : SpecFault A) → spec_of (dialect_of d) t ≡ Ok s → ¬ IsTooLarge t → IsFaultIn d t f → FaultAgreesWithSize t f → IsRefusedSpec f
no_fault_in d t s specs.Badarg read small p q = absurd (cc)
no_fault_in d t s (specs.Unsupported name) read small p q = absurd (cc)
no_fault_in d t s specs.TooLarge read small p q = absurd (small q)
no_fault_in d t s specs.OutOfMemory read small p q = tt

no_specification_fault : {A : Type 0} (bytes : List ℕ) (d : Dialect) (s : outcome.Spec) (f : SpecTestFault A) → IsSpecification bytes d s → IsSpecificationFault bytes d f → IsSpecTestRefused f
no_specification_fault bytes d s (Text f) k p = not_refused bytes k.0 f k.1 p
no_specification_fault bytes d s (Spec n f) k p =
    let e : k.0 ≡ p.0 = one bytes k.0 p.0 k.1 p.1 in
    no_fault_in d p.0 s f (subst (λ u. spec_of (dialect_of d) u ≡ Ok s) e k.2) (subst (λ u. ¬ IsTooLarge u) e k.3) p.2 p.3
no_specification_fault bytes d s OutOfMemory k p = tt
no_specification_fault bytes d s _ k p = absurd p

-- ---- a text has one fault

one_list_fault : {A : Type 0} (bytes : List ℕ) (e f : SpecTestFault A) → IsListFault bytes e → IsListFault bytes f → ¬ IsSpecTestRefused e → ¬ IsSpecTestRefused f → e ≡ f
one_list_fault bytes OutOfMemory f p q r s = absurd (r tt)
one_list_fault bytes e OutOfMemory p q r s = absurd (s tt)
one_list_fault bytes (OfList e) (OfList f) p q r s = ap OfList (one_refusal bytes e f p q r s)
one_list_fault bytes (OfList e) NoList p q r s = absurd (r (not_refused bytes q.0 e q.1 p))
one_list_fault bytes NoList (OfList f) p q r s = absurd (s (not_refused bytes p.0 f p.1 q))
one_list_fault bytes NoList NoList p q r s = refl
one_list_fault bytes (OfList e) _ p q r s = absurd q
one_list_fault bytes NoList _ p q r s = absurd q
one_list_fault bytes _ f p q r s = absurd p

one_fault_of : {A : Type 0} (bytes : List ℕ) (e f : SpecTestFault A) → IsCallerFault bytes e → IsCallerFault bytes f → ¬ IsSpecTestRefused e → ¬ IsSpecTestRefused f → e ≡ f
one_fault_of bytes OutOfMemory f p q r s = absurd (r tt)
one_fault_of bytes e OutOfMemory p q r s = absurd (s tt)
one_fault_of bytes (Caller e) (Caller f) p q r s = ap Caller (one_refusal bytes e f p q r s)
one_fault_of bytes (Caller e) NoCaller p q r s = absurd (r (not_refused bytes q.0 e q.1 p))
one_fault_of bytes NoCaller (Caller f) p q r s = absurd (s (not_refused bytes p.0 f p.1 q))
one_fault_of bytes NoCaller NoCaller p q r s = refl
one_fault_of bytes (Caller e) _ p q r s = absurd q
one_fault_of bytes NoCaller _ p q r s = absurd q
one_fault_of bytes _ f p q r s = absurd p

one_caller_fault : {A : Type 0} (text : Option (Bor (List ℕ))) (e f : SpecTestFault A) → HasCallerFault text e → HasCallerFault text f → ¬ IsSpecTestRefused e → ¬ IsSpecTestRefused f → e ≡ f
one_caller_fault text e f p q r s =
    let first : text ≡ Some p.0 = p.1 in
    let second : text ≡ Some q.0 = q.1 in
    let same : q.0 ≡ p.0 = cc in
    one_fault_of p.0.now e f p.2 (subst (λ b. IsCallerFault b.now f) same q.2) r s

one_fault_in : {A : Type 0} (d : Dialect) (t : Tree) (e f : SpecFault A) → IsFaultIn d t e → FaultAgreesWithSize t e → IsFaultIn d t f → FaultAgreesWithSize t f → ¬ IsRefusedSpec e → ¬ IsRefusedSpec f → e ≡ f
one_fault_in d t specs.OutOfMemory f p large q larger r s = absurd (r tt)
one_fault_in d t e specs.OutOfMemory p large q larger r s = absurd (s tt)
one_fault_in d t specs.Badarg specs.Badarg p large q larger r s = refl
one_fault_in d t (specs.Unsupported m) (specs.Unsupported n) p large q larger r s = let same : m ≡ n = cc in ap specs.Unsupported same
one_fault_in d t specs.TooLarge specs.TooLarge p large q larger r s = refl
one_fault_in d t specs.Badarg (specs.Unsupported n) p large q larger r s = absurd (cc)
one_fault_in d t (specs.Unsupported m) specs.Badarg p large q larger r s = absurd (cc)
one_fault_in d t specs.TooLarge f p large q larger r s = absurd (larger large)
one_fault_in d t e specs.TooLarge p large q larger r s = absurd (large larger)

one_specification_fault : {A : Type 0} (bytes : List ℕ) (d : Dialect) (e f : SpecTestFault A) → IsSpecificationFault bytes d e → IsSpecificationFault bytes d f → ¬ IsSpecTestRefused e → ¬ IsSpecTestRefused f → e ≡ f
one_specification_fault bytes d OutOfMemory f p q r s = absurd (r tt)
one_specification_fault bytes d e OutOfMemory p q r s = absurd (s tt)
one_specification_fault bytes d (Text e) (Text f) p q r s = ap Text (one_refusal bytes e f p q r s)
one_specification_fault bytes d (Text e) (Spec n f) p q r s = absurd (r (not_refused bytes q.0 e q.1 p))
one_specification_fault bytes d (Spec m e) (Text f) p q r s = absurd (s (not_refused bytes p.0 f p.1 q))
one_specification_fault bytes d (Spec m e) (Spec n f) p q r s =
    let same : q.0 ≡ p.0 = one bytes q.0 p.0 q.1 p.1 in
    let one_fault : e ≡ f = one_fault_in d p.0 e f p.2 p.3 (subst (λ t. IsFaultIn d t f) same q.2) (subst (λ t. FaultAgreesWithSize t f) same q.3) r s in
    let one_place : m ≡ n = p.4 ∙ sym (ap (stop_of (dialect_of d)) same) ∙ sym q.4 in
    λ i. Spec (one_place i) (one_fault i)
one_specification_fault bytes d (Text e) _ p q r s = absurd q
one_specification_fault bytes d (Spec m e) _ p q r s = absurd q
one_specification_fault bytes d _ f p q r s = absurd p

-- ---- which text a fault is of

abbrev HasFault : {A : Type 0} → SpecTestInput → SpecTestFault A → Type 0
HasFault q f = IsListFault q.list.now f ⊎ ((HasList q × HasCallerFault q.caller f) ⊎ (HasList q × HasCaller q × IsSpecificationFault q.spec.now q.dialect f))

has_fault : {A : Type 0} (q : SpecTestInput) (f : SpecTestFault A) → IsNoAnswer q f → HasFault q f
has_fault q (OfList f) p = inl p
has_fault q NoList p = inl p
has_fault q (Caller f) p = inr (inl p)
has_fault q NoCaller p = inr (inl p)
has_fault q (Text f) p = inr (inr p)
has_fault q (Spec n f) p = inr (inr p)
has_fault q OutOfMemory p = inl tt

no_fault : {A : Type 0} (q : SpecTestInput) (ts : List Tree) (caller : Option Mfa) (s : outcome.Spec) (f : SpecTestFault A) → IsList q.list.now ts → caller_is q.caller caller → IsSpecification q.spec.now q.dialect s → HasFault q f → IsSpecTestRefused f
no_fault q ts caller s f l m k (inl p) = no_list_fault q.list.now ts f l p
no_fault q ts caller s f l m k (inr (inl p)) = no_caller_fault q.caller caller f m p.1
no_fault q ts caller s f l m k (inr (inr p)) = no_specification_fault q.spec.now q.dialect s f k p.2

one_fault : {A : Type 0} (q : SpecTestInput) (e f : SpecTestFault A) → HasFault q e → HasFault q f → ¬ IsSpecTestRefused e → ¬ IsSpecTestRefused f → e ≡ f
one_fault q e f (inl x) (inl y) r s = one_list_fault q.list.now e f x y r s
one_fault q e f (inl x) (inr (inl y)) r s = absurd (r (no_list_fault q.list.now y.0.0 e y.0.1 x))
one_fault q e f (inl x) (inr (inr y)) r s = absurd (r (no_list_fault q.list.now y.0.0 e y.0.1 x))
one_fault q e f (inr (inl x)) (inl y) r s = absurd (s (no_list_fault q.list.now x.0.0 f x.0.1 y))
one_fault q e f (inr (inl x)) (inr (inl y)) r s = one_caller_fault q.caller e f x.1 y.1 r s
one_fault q e f (inr (inl x)) (inr (inr y)) r s = absurd (r (no_caller_fault q.caller y.1.0 e y.1.1 x.1))
one_fault q e f (inr (inr x)) (inl y) r s = absurd (s (no_list_fault q.list.now x.0.0 f x.0.1 y))
one_fault q e f (inr (inr x)) (inr (inl y)) r s = absurd (s (no_caller_fault q.caller x.1.0 f x.1.1 y.1))
one_fault q e f (inr (inr x)) (inr (inr y)) r s = one_specification_fault q.spec.now q.dialect e f x.2 y.2 r s

-- ---- two answers

pub answer_or_fault : {A : Type 0} (q : SpecTestInput) (t : List ℕ) (f : SpecTestFault A) → IsAnswerTo q t → IsNoAnswer q f → IsSpecTestRefused f
answer_or_fault q t f x y = no_fault q x.elements x.caller x.spec f x.of_list x.of_caller x.of_spec (has_fault q f y)

pub one_reason : {A : Type 0} (q : SpecTestInput) (e f : SpecTestFault A) → IsNoAnswer q e → IsNoAnswer q f → ¬ IsSpecTestRefused e → ¬ IsSpecTestRefused f → e ≡ f
one_reason q e f x y = one_fault q e f (has_fault q e x) (has_fault q f y)

pub answered_alike : {A : Type 0} (q : SpecTestInput) (a b : Result (Vec ℕ A) (SpecTestFault A)) → MatchResult a (λ v. IsAnswerTo q v.items) (λ f. IsNoAnswer q f) → MatchResult b (λ v. IsAnswerTo q v.items) (λ f. IsNoAnswer q f)
    → AreAnsweredAlike a b
answered_alike q (Ok v) (Ok w) x y = one_text q v.items w.items x y
answered_alike q (Ok v) (Err f) x y = answer_or_fault q v.items f x y
answered_alike q (Err e) (Ok w) x y = answer_or_fault q w.items e y x
answered_alike q (Err e) (Err f) x y = one_reason q e f x y

-- ---- two answers what the texts of a question spell

one_question : {A : Type 0} (q : SpecTestInput) (v w : SpecTestTerms A) → AreTermsOf q v → AreTermsOf q w → AreSameTerms v w
one_question q v w x y = record {
  same_list = one_list q.list.now (map tree_of v.list.items) (map tree_of w.list.items) x.of_list y.of_list;
  same_caller = one_caller q.caller (mfas_seen v.caller) (mfas_seen w.caller) x.of_caller y.of_caller;
  same_spec = one_specification q.spec.now q.dialect (spec_seen v.spec) (spec_seen w.spec) x.of_spec y.of_spec;
}

terms_or_fault : {A : Type 0} (q : SpecTestInput) (v : SpecTestTerms A) (f : SpecTestFault A) → AreTermsOf q v → IsNoAnswer q f → IsSpecTestRefused f
terms_or_fault q v f x y = no_fault q (map tree_of v.list.items) (mfas_seen v.caller) (spec_seen v.spec) f x.of_list x.of_caller x.of_spec (has_fault q f y)

pub read_alike : {A : Type 0} (q : SpecTestInput) (a b : Result (SpecTestTerms A) (SpecTestFault A)) → MatchResult a (λ v. AreTermsOf q v) (λ f. IsNoAnswer q f) → MatchResult b (λ v. AreTermsOf q v) (λ f. IsNoAnswer q f)
    → AreTermsAlike a b
read_alike q (Ok v) (Ok w) x y = one_question q v w x y
read_alike q (Ok v) (Err f) x y = terms_or_fault q v f x y
read_alike q (Err e) (Ok w) x y = terms_or_fault q w e y x
read_alike q (Err e) (Err f) x y = one_reason q e f x y

-- ---- two answers why a text spells no specification

one_reason_told : (d : Dialect) (bytes t u : List ℕ) → TellsReason d bytes t → TellsReason d bytes u → t ≡ u
one_reason_told d bytes t u x y =
    x.2 ∙ ap (λ s. text_where_reason (spec_reason (dialect_of d) s)) (one bytes x.0 y.0 x.1 y.1) ∙ sym y.2

pub told_alike : {A : Type 0} (d : Dialect) (bytes : List ℕ) (a b : Result (Vec ℕ A) TextFault) → MatchResult a (λ v. TellsReason d bytes v.items) (λ f. IsTextRefusal bytes f)
    → MatchResult b (λ v. TellsReason d bytes v.items) (λ f. IsTextRefusal bytes f) → AreToldAlike a b
told_alike d bytes (Ok v) (Ok w) x y = one_reason_told d bytes v.items w.items x y
told_alike d bytes (Ok v) (Err f) x y = not_refused bytes x.0 f x.1 y
told_alike d bytes (Err e) (Ok w) x y = not_refused bytes y.0 e y.1 x
told_alike d bytes (Err e) (Err f) x y = one_refusal bytes e f x y
