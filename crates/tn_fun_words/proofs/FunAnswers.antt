-- The answer in the words of a fun, of that in the words of the specification.
use Rattle.std.proofs.Common.{◌≡◌, ◌∙◌, ℕ, List, [], ◌++◌, Option, Some, None, Ok, map, flat_map, refl, sym, ap, subst}
use Rattle.std.proofs.Math.Logic.{∥∥₁_elim}
use Rattle.std.proofs.Props.{props}
use Rattle.std.specs.Option.{option_map, option_copied}
use Rattle.std.specs.Borrow.{Bor}
use Rattle.std.specs.declared.vec.Vec.{Vec}
use Rattle.def_term.specs.Alive.{Alive, PROCESSES}
use Rattle.def_term.specs.Tree.{Tree, list, elements, of_elements}
use Rattle.def_term.specs.Names.{Mfa, mfa_term}
use Rattle.def_text.proofs.One.{one}
use Rattle.def_spec.specs.Expressions as ex
use Rattle.def_spec.specs.Flags.{FlagTable}
use Rattle.def_spec.specs.Outcome as outcome
use Rattle.def_spec.specs.Reading.{spec_of}
use Rattle.def_session.specs.State.{alive_at_start}
use Rattle.def_fun.specs.Trees.{FunClause}
use Rattle.def_fun.specs.Answers.{fun_of_text}
use Rattle.def_fun_words.specs.Notes.{fun_notes, note_line, notes_or_none, notes_text}
use Rattle.def_explain.specs.Texts.{spec_test_flags, spec_test_text}
use Rattle.def_fun_words.specs.Words.{words_of_fun, words_or_none, words_of_text}
use Rattle.def_fun_words.specs.WordTexts.{test_line_text, fun_test_text}
use Rattle.tn_term.specs.declared.term.Term.{Term}
use Rattle.tn_term.specs.declared.mfa.Mfa as code
use Rattle.tn_term.specs.Views.{tree_of, mfa_seen}
use Rattle.tn_term.proofs.Views.{elements-of_elements}
use Rattle.tn_spec.specs.declared.func.Dialect.{Dialect}
use Rattle.tn_spec.specs.declared.spec.Spec.{Spec}
use Rattle.tn_spec.specs.Views.{dialect_of, clause_seen}
use Rattle.tn_spec.specs.Wholes.{spec_seen}
use Rattle.tn_verdict.specs.declared.spec_test_input.SpecTestInput.{SpecTestInput}
use Rattle.tn_verdict.specs.SpecTestInputs.{IsList, IsListRead, IsSpecification, IsSpecificationRead, caller_is, mfas_seen, context_of, IsAnswerTo}
use Rattle.tn_fun_words.specs.FrontLines.{test_front_text, test_end_after}
use Rattle.tn_fun_words.specs.FunAnswers.{IsFunAnswerTo}
use Rattle.tn_fun_words.proofs.Fronts.{plain_halves, fun_halves}

-- ---- a text is one list, one caller and one specification

one_list : (bytes : List ℕ) (ts us : List Tree) → IsList bytes ts → IsList bytes us → ts ≡ us
one_list bytes ts us p q =
    let e : list (of_elements ts) ≡ list (of_elements us) = one bytes _ _ p q in
    let f : of_elements ts ≡ of_elements us = cc in
    sym (elements-of_elements ts) ∙ ap elements f ∙ elements-of_elements us

one_function : (f g : Mfa) → mfa_term f ≡ mfa_term g → f ≡ g
one_function f g e =
    let of_module : f.module_name ≡ g.module_name = cc in
    let of_name : f.function_name ≡ g.function_name = cc in
    let of_arity : f.arity ≡ g.arity = cc in
    λ i. record { module_name = of_module i; function_name = of_name i; arity = of_arity i }

one_caller : (text : Option (Bor (List ℕ))) (f g : Option Mfa) → caller_is text f → caller_is text g → f ≡ g
one_caller None None None p q = refl
one_caller None None (Some g) p q = absurd q
one_caller None (Some f) g p q = absurd p
one_caller (Some bytes) None g p q = absurd p
one_caller (Some bytes) (Some f) None p q = absurd q
one_caller (Some bytes) (Some f) (Some g) p q = ap Some (one_function f g (one bytes.now _ _ p.0 q.0))

one_specification : (bytes : List ℕ) (d : Dialect) (s t : outcome.Spec) → IsSpecification bytes d s → IsSpecification bytes d t → s ≡ t
one_specification bytes d s t p q =
    let e : p.0 ≡ q.0 = one bytes p.0 q.0 p.1 q.1 in
    let read : spec_of (dialect_of d) q.0 ≡ Ok s = subst (λ u. spec_of (dialect_of d) u ≡ Ok s) e p.2 in
    let again : spec_of (dialect_of d) q.0 ≡ Ok t = q.2 in
    cc

-- ---- the words and the notes of a text

text-set : IsSet (List ℕ)
text-set = Prim.hlevel props

words_said : (source : List ℕ) (fs : List FunClause) → ∥ fun_of_text source ≡ Ok fs ∥₁ → (d : ex.Dialect) (ks : List outcome.Clause) (c : ex.Context) (out : List ℕ)
    → out ≡ fun_test_text (words_of_fun source fs) d ks c → out ≡ fun_test_text (words_of_text source) d ks c
words_said source fs read d ks c out h =
    ∥∥₁_elim read (text-set out (fun_test_text (words_of_text source) d ks c)) (λ e. h ∙ ap (λ r. fun_test_text (words_or_none source r) d ks c) (sym e))

pub notes_said : (source : List ℕ) (fs : List FunClause) → ∥ fun_of_text source ≡ Ok fs ∥₁ → (out : List ℕ) → out ≡ flat_map (note_line source) (fun_notes fs) → out ≡ notes_text source
notes_said source fs read out h = ∥∥₁_elim read (text-set out (notes_text source)) (λ e. h ∙ ap (λ r. flat_map (note_line source) (notes_or_none r)) (sym e))

-- ---- the answer

-- the answer in the words of the specification is that of this list, caller and specification
plain_is : (q : SpecTestInput) (ts : List Tree) (caller : Option Mfa) (spec : outcome.Spec) (plain : List ℕ) → IsList q.list.now ts → caller_is q.caller caller → IsSpecification q.spec.now q.dialect spec → IsAnswerTo q plain
    → plain ≡ spec_test_text spec.dialect spec.clauses (context_of q ts caller)
plain_is q ts caller spec plain l m s x =
    x.reported
    ∙ ap (λ z. spec_test_text z.dialect z.clauses (context_of q x.elements x.caller)) (one_specification q.spec.now q.dialect x.spec spec x.of_spec s)
    ∙ ap (λ us. spec_test_text spec.dialect spec.clauses (context_of q us x.caller)) (one_list q.list.now x.elements ts x.of_list l)
    ∙ ap (λ f. spec_test_text spec.dialect spec.clauses (context_of q ts f)) (one_caller q.caller x.caller caller x.of_caller m)

module _ {A : Type 0} (q : SpecTestInput) where
  -- the context of a list, a caller, the living processes and their flags
  abbrev pub in_context : List (Term A) → Option (Bor (code.Mfa A)) → Alive → FlagTable → ex.Context
  in_context ts m alive flags = record { matched_list = map tree_of ts; self_pid = q.self_pid; caller_mfa = option_map (λ b. mfa_seen b.now) m; alive = alive; flags = flags }

  lent_seen : (m : Option (Bor (code.Mfa A))) (caller : Option (code.Mfa A)) → option_copied m ≡ caller → option_map (λ b. mfa_seen b.now) m ≡ mfas_seen caller
  lent_seen None caller e = ap (λ x. option_map mfa_seen x) e
  lent_seen (Some b) caller e = ap (λ x. option_map mfa_seen x) e

  context_is : (xs : List (Term A)) (caller : Option (code.Mfa A)) (ts : List (Term A)) (lent : Option (Bor (code.Mfa A))) (alive : Alive) (flags : FlagTable)
      → ts ≡ xs → option_copied lent ≡ caller → alive ≡ alive_at_start PROCESSES → flags ≡ spec_test_flags (dialect_of q.dialect) q.self_pid → in_context ts lent alive flags ≡ context_of q (map tree_of xs) (mfas_seen caller)
  context_is xs caller ts lent alive flags of_list of_caller of_alive of_flags =
      ap (λ us. in_context us lent alive flags) of_list
      ∙ ap (λ f. record { matched_list = map tree_of xs; self_pid = q.self_pid; caller_mfa = f; alive = alive; flags = flags }) (lent_seen lent caller of_caller)
      ∙ ap (λ living. record { matched_list = map tree_of xs; self_pid = q.self_pid; caller_mfa = mfas_seen caller; alive = living; flags = flags }) of_alive
      ∙ ap (λ fs. record { matched_list = map tree_of xs; self_pid = q.self_pid; caller_mfa = mfas_seen caller; alive = alive_at_start PROCESSES; flags = fs }) of_flags

  pub in_words : (source : List ℕ) (fs : List FunClause) → ∥ fun_of_text source ≡ Ok fs ∥₁ → (given : Vec (Term A) A) (caller : Option (code.Mfa A)) (spec : Spec A) (ts : List (Term A)) (lent : Option (Bor (code.Mfa A))) (alive : Alive) (flags : FlagTable) (none front nothing text rest out plain : List ℕ)
      → IsListRead q.list.now given → caller_is q.caller (mfas_seen caller) → IsSpecificationRead q.spec.now q.dialect spec → ts ≡ given.items → option_copied lent ≡ caller → alive ≡ alive_at_start PROCESSES → flags ≡ spec_test_flags (dialect_of q.dialect) q.self_pid
      → none ≡ [] → front ≡ none ++ test_front_text [] (dialect_of spec.dialect) 0 (map clause_seen spec.clauses.items) (in_context ts lent alive flags)
      → nothing ≡ [] → text ≡ nothing ++ test_front_text (words_of_fun source fs) (dialect_of spec.dialect) 0 (map clause_seen spec.clauses.items) (in_context ts lent alive flags)
      → ((r : List ℕ) → plain ≡ front ++ r → rest ≡ r) → out ≡ text ++ rest → IsAnswerTo q plain → IsFunAnswerTo q source out
  in_words source fs read given caller spec ts lent alive flags none front nothing text rest out plain l m s of_list of_caller of_alive of_flags empty written also_empty worded after made x =
      let d = dialect_of spec.dialect in
      let ks = map clause_seen spec.clauses.items in
      let us = map tree_of given.items in
      let context = context_of q us (mfas_seen caller) in
      let same : in_context ts lent alive flags ≡ context = context_is given.items caller ts lent alive flags of_list of_caller of_alive of_flags in
      let end : List ℕ = flat_map (test_line_text []) (test_end_after d 0 ks context) in
      let front_is : front ≡ test_front_text [] d 0 ks context = written ∙ ap (λ z. z ++ test_front_text [] d 0 ks (in_context ts lent alive flags)) empty ∙ ap (test_front_text [] d 0 ks) same in
      let text_is : text ≡ test_front_text (words_of_fun source fs) d 0 ks context = worded ∙ ap (λ z. z ++ test_front_text (words_of_fun source fs) d 0 ks (in_context ts lent alive flags)) also_empty ∙ ap (test_front_text (words_of_fun source fs) d 0 ks) same in
      let whole : plain ≡ front ++ end = plain_is q us (mfas_seen caller) (spec_seen spec) plain l m s x ∙ plain_halves d context ks ∙ ap (λ z. z ++ end) (sym front_is) in
      record {
        elements = us;
        caller = mfas_seen caller;
        spec = spec_seen spec;
        of_list = l;
        of_caller = m;
        of_spec = s;
        reported = words_said source fs read d ks context out (made ∙ ap (λ z. text ++ z) (after end whole) ∙ ap (λ z. z ++ end) text_is ∙ sym (fun_halves d context (words_of_fun source fs) ks));
      }
