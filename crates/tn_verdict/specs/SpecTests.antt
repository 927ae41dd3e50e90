-- The texts of trials, of the code's specifications and contexts.
use Rattle.std.specs.Prelude.{◌≡◌, ℕ, List, [], ◌∷◌, ◌++◌, Option, Result, OnOk, codes, map, flat_map}
use Rattle.std.specs.Option.{option_map}
use Rattle.std.specs.Borrow.{Bor}
use Rattle.std.specs.declared.alloc.Allocator.{Ghosts}
use Rattle.std.specs.declared.vec.Vec.{Vec}
use Rattle.def_term.specs.Tree.{Tree}
use Rattle.def_spec.specs.Expressions.{Dialect, Effect}
use Rattle.def_explain.specs.Reasons.{Reason}
use Rattle.def_explain.specs.Texts.{clause_text, reason_text, effects_text, end_text, difference_line, fires_differences, fires_text, spec_test_text}
use Rattle.tn_term.specs.Views.{tree_of}
use Rattle.tn_term.specs.declared.term.Term.{Term}
use Rattle.tn_head.specs.Views.{bindings_seen}
use Rattle.tn_head.specs.declared.bindings.Bindings.{Bindings}
use Rattle.tn_spec.specs.Views.{dialect_of, clause_seen}
use Rattle.tn_spec.specs.declared.spec.Clause.{Clause}
use Rattle.tn_spec.specs.declared.spec.Spec.{Spec}
use Rattle.tn_action.specs.Views.{context_seen, effect_seen}
use Rattle.tn_action.specs.declared.context.Context.{Context}
use Rattle.tn_action.specs.declared.effect.Effect as code
use Rattle.tn_difference.specs.Differences.{difference_seen, difference_line_where, body_differs_seen}
use Rattle.tn_difference.specs.declared.differences.Difference.{Difference}
use Rattle.tn_verdict.specs.declared.spec_test.SpecTest.{SpecTest}

-- a call that went well left these bytes after the old text
abbrev pub Appends : {A X E : Type 0} → List ℕ → Result X E → Vec ℕ A → Vec ℕ A → Type 0
Appends bytes result old new = OnOk result (new.items ≡ old.items ++ bytes)

-- what becomes of the clauses of a specification in a context
abbrev pub spec_test_of : {A : Type 0} → Spec A → Context A → List ℕ
spec_test_of s c = spec_test_text (dialect_of s.dialect) (map clause_seen s.clauses.items) (context_seen c)

-- the line of a clause that doesn't fire
abbrev pub failed_text : ℕ → Reason → List ℕ
failed_text n r = clause_text n (codes ": " ++ reason_text r ++ 10 ∷ [])

-- that a clause fires, and what its body asks for
abbrev pub fires_line : ℕ → List Effect → List ℕ
fires_line n es = clause_text n (codes " fires" ++ effects_text es ++ 10 ∷ [])

-- the line of the message that the effects make
abbrev pub message_line : Dialect → ℕ → List Effect → List ℕ
message_line d self_pid es = codes "=> " ++ end_text d self_pid es ++ 10 ∷ []

module _ {A : Type 0} {G : Ghosts A} (t : SpecTest A G) where
  -- the lines of a clause that fires
  abbrev pub fired_text : {B : Type 0} → ℕ → Clause A → Bindings A B → List (code.Effect A) → List ℕ
  fired_text n k b es = fires_text (dialect_of t.spec.now.dialect) (clause_seen k) (context_seen t.context.now) n (bindings_seen b) (map effect_seen es)

  -- the line of what a node does otherwise, where it does
  abbrev pub line_of_difference : List (code.Effect A) → Difference → List ℕ
  line_of_difference es x = difference_line_where (body_differs_seen x t.spec.now.dialect t.context.now es) (difference_seen x)

  -- a line for each
  abbrev pub differences_text : {B : Type 0} → Clause A → Bindings A B → List (code.Effect A) → List ℕ
  differences_text k b es = flat_map difference_line (fires_differences (dialect_of t.spec.now.dialect) (clause_seen k) (bindings_seen b) (context_seen t.context.now) (map effect_seen es))

  -- all lines
  abbrev pub spec_test_in : List ℕ
  spec_test_in = spec_test_of t.spec.now t.context.now
