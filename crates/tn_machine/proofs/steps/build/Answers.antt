use Rattle.std.proofs.Common.{◌∙◌, sym, ap, map}
use Rattle.def_term.specs.Tree.{tuple, list}
use Rattle.def_machine.specs.Machine.{term_of}
use Rattle.tn_code.specs.Views.{shape_kind_seen}
use Rattle.tn_guard.specs.Views.{value_seen, values_seen}
use Rattle.tn_guard.proofs.Views.{value_seen_tuple, value_seen_list}
use Rattle.tn_machine.proofs.steps.build.Goals as goal

pub returns-in-Tuple : goal.returns-in-Tuple
returns-in-Tuple g c = (
  c.in_ok-values.values.items,
  c.in_ok-values.ensures,
  value_seen_tuple _ ∙ ap (λ vs. tuple (values_seen vs)) (c.in_ok-items.ensures ∙ c.as_slice.ensures)
      ∙ sym (ap (λ k. term_of (shape_kind_seen k) (map value_seen c.in_ok-values.values.items)) c.in-Tuple.is),
)

pub returns : goal.returns
returns g c = (
  c.in_ok-values.values.items,
  c.in_ok-values.ensures,
  value_seen_list _ ∙ ap (λ vs. list (values_seen vs)) (c.in_ok-items.ensures ∙ c.as_slice.ensures)
      ∙ sym (ap (λ k. term_of (shape_kind_seen k) (map value_seen c.in_ok-values.values.items)) c.in-List.is),
)
