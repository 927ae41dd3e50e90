-- Two answers that are equal part by part.
use Rattle.std.proofs.Common.{◌≡◌, ◌∙◌, Bool, sym, ap, ap₂}
use Rattle.def_explain.specs.Differences.{one_shows_order, list_differs}
use Rattle.def_explain.specs.Logic.{clause_has_logic_on_other}
use Rattle.def_spec.specs.Outcome as definition
use Rattle.tn_action.specs.Views.{context_seen}
use Rattle.tn_action.specs.declared.context.Context.{Context}
use Rattle.tn_head.specs.Views.{bindings_seen}
use Rattle.tn_head.specs.declared.bindings.Bindings.{Bindings}
use Rattle.tn_spec.specs.Views.{dialect_of, clause_seen}
use Rattle.tn_spec.specs.declared.func.Dialect.{Dialect}
use Rattle.tn_spec.specs.declared.spec.Clause.{Clause}
use Rattle.tn_running_node.specs.ClauseDifferences.{AreOfClause}
use Rattle.tn_running_node.specs.declared.clause.ClauseDifferences.{ClauseDifferences}
use Rattle.tn_running_node.specs.declared.lines.LineKinds.{LineKinds}

pub same_kinds : (k l : LineKinds) → k.differs ≡ l.differs → k.is_open ≡ l.is_open → k ≡ l
same_kinds k l differs open_lines =
    let kinds : Bool → Bool → LineKinds = λ a b. record { differs = a; is_open = b } in
    ap₂ kinds differs open_lines

same_three : (x y : ClauseDifferences) → x.order ≡ y.order → x.logic ≡ y.logic → x.list ≡ y.list → x ≡ y
same_three x y orders logics lists =
    let these : Bool → Bool → Bool → ClauseDifferences = λ a b c. record { order = a; logic = b; list = c } in
    ap (λ b. these x.order b x.list) logics ∙ ap₂ (λ a c. these a y.logic c) orders lists

module _ {A B : Type 0} (d : Dialect) (k m : Clause A) (b c : Bindings A B) (here there : Context A) (clauses : clause_seen k ≡ clause_seen m) (bindings : bindings_seen b ≡ bindings_seen c) (contexts : context_seen here ≡ context_seen there) where
  pub same_differences : (x y : ClauseDifferences) → AreOfClause d k b here x → AreOfClause d m c there y → x ≡ y
  same_differences x y h i =
      same_three x y
      (h.order ∙ ap (λ (k : definition.Clause). one_shows_order k.body) clauses ∙ sym i.order)
      (h.logic ∙ ap (λ k. clause_has_logic_on_other (dialect_of d) k (bindings_seen b) (context_seen here)) clauses
      ∙ ap₂ (λ b c. clause_has_logic_on_other (dialect_of d) (clause_seen m) b c) bindings contexts ∙ sym i.logic)
      (h.list ∙ ap (list_differs (dialect_of d)) clauses ∙ sym i.list)
