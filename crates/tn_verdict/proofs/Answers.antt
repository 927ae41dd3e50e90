-- Answers of questions, and why there is none.
use Rattle.std.proofs.Common.{◌≡◌, ◌∙◌, ℕ, List, [], ◌++◌, Option, Some, None, map, ap}
use Rattle.std.specs.Option.{option_map, option_copied}
use Rattle.std.specs.Borrow.{Bor}
use Rattle.std.specs.declared.vec.Vec.{Vec}
use Rattle.def_term.specs.Alive.{Alive, PROCESSES}
use Rattle.def_spec.specs.Expressions as ex
use Rattle.def_spec.specs.Flags.{FlagTable}
use Rattle.def_session.specs.State.{alive_at_start}
use Rattle.def_explain.specs.Texts.{spec_test_flags, spec_test_text}
use Rattle.tn_term.specs.declared.term.Term.{Term}
use Rattle.tn_term.specs.declared.mfa.Mfa as code
use Rattle.tn_term.specs.Views.{tree_of, mfa_seen}
use Rattle.tn_spec.specs.declared.spec.Spec.{Spec}
use Rattle.tn_spec.specs.Views.{dialect_of, clause_seen}
use Rattle.tn_spec.specs.Wholes.{spec_seen}
use Rattle.tn_verdict.specs.declared.spec_test_input.SpecTestInput.{SpecTestInput}
use Rattle.tn_verdict.specs.declared.spec_test_input.SpecTestFault.{SpecTestFault}
use Rattle.tn_verdict.specs.declared.spec_test_input.SpecTestFault.TheVariants as faults
use Rattle.tn_verdict.specs.SpecTestInputs.{IsListRead, IsListFault, IsSpecificationRead, IsSpecificationFault, caller_is, mfas_seen, IsAnswerTo, HasList, HasCaller, HasCallerFault, IsNoAnswer}

module _ {A : Type 0} (q : SpecTestInput) where
  pub no_list : (f : SpecTestFault A) → IsListFault q.list.now f → IsNoAnswer q f
  no_list (faults.List f) h = h
  no_list faults.NoList h = h
  no_list (faults.Caller f) h = absurd h
  no_list faults.NoCaller h = absurd h
  no_list (faults.Text f) h = absurd h
  no_list (faults.Spec n f) h = absurd h
  no_list faults.OutOfMemory h = tt

  pub no_caller : (f : SpecTestFault A) → HasList q → HasCallerFault q.caller f → IsNoAnswer q f
  no_caller (faults.List f) l h = absurd h.2
  no_caller faults.NoList l h = absurd h.2
  no_caller (faults.Caller f) l h = (l, h)
  no_caller faults.NoCaller l h = (l, h)
  no_caller (faults.Text f) l h = absurd h.2
  no_caller (faults.Spec n f) l h = absurd h.2
  no_caller faults.OutOfMemory l h = tt

  pub no_specification : (f : SpecTestFault A) → HasList q → HasCaller q → IsSpecificationFault q.spec.now q.dialect f → IsNoAnswer q f
  no_specification (faults.List f) l c h = absurd h
  no_specification faults.NoList l c h = absurd h
  no_specification (faults.Caller f) l c h = absurd h
  no_specification faults.NoCaller l c h = absurd h
  no_specification (faults.Text f) l c h = (l, c, h)
  no_specification (faults.Spec n f) l c h = (l, c, h)
  no_specification faults.OutOfMemory l c h = tt

  -- the context of a list, a caller, the living processes and their flags
  abbrev pub in_context : List (Term A) → Option (Bor (code.Mfa A)) → Alive → FlagTable → ex.Context
  in_context ts m alive flags = record { matched_list = map tree_of ts; self_pid = q.self_pid; caller_mfa = option_map (λ b. mfa_seen b.now) m; alive = alive; flags = flags }

  lent_seen : (m : Option (Bor (code.Mfa A))) (caller : Option (code.Mfa A)) → option_copied m ≡ caller → option_map (λ b. mfa_seen b.now) m ≡ mfas_seen caller
  lent_seen None caller e = ap (λ x. option_map mfa_seen x) e
  lent_seen (Some b) caller e = ap (λ x. option_map mfa_seen x) e

  pub answered : (list : Vec (Term A) A) (caller : Option (code.Mfa A)) (spec : Spec A) (ts : List (Term A)) (lent : Option (Bor (code.Mfa A))) (alive : Alive) (flags : FlagTable) (start text : List ℕ)
      → IsListRead q.list.now list → caller_is q.caller (mfas_seen caller) → IsSpecificationRead q.spec.now q.dialect spec → ts ≡ list.items → option_copied lent ≡ caller → alive ≡ alive_at_start PROCESSES → flags ≡ spec_test_flags (dialect_of q.dialect) q.self_pid
      → start ≡ [] → text ≡ start ++ spec_test_text (dialect_of spec.dialect) (map clause_seen spec.clauses.items) (in_context ts lent alive flags) → IsAnswerTo q text
  answered list caller spec ts lent alive flags start text l m s of_list of_caller of_alive of_flags empty made =
      let reported : ex.Context → List ℕ = spec_test_text (dialect_of spec.dialect) (map clause_seen spec.clauses.items) in
      record {
        elements = map tree_of list.items;
        caller = mfas_seen caller;
        spec = spec_seen spec;
        of_list = l;
        of_caller = m;
        of_spec = s;
        reported = made
            ∙ ap (λ b. b ++ reported (in_context ts lent alive flags)) empty
            ∙ ap (λ us. reported (in_context us lent alive flags)) of_list
            ∙ ap (λ f. reported (record { matched_list = map tree_of list.items; self_pid = q.self_pid; caller_mfa = f; alive = alive; flags = flags })) (lent_seen lent caller of_caller)
            ∙ ap (λ living. reported (record { matched_list = map tree_of list.items; self_pid = q.self_pid; caller_mfa = mfas_seen caller; alive = living; flags = flags })) of_alive
            ∙ ap (λ fs. reported (record { matched_list = map tree_of list.items; self_pid = q.self_pid; caller_mfa = mfas_seen caller; alive = alive_at_start PROCESSES; flags = fs })) of_flags;
      }
