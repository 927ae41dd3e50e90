use Rattle.std.proofs.Common.{◌∙◌, refl, sym, ap, replicate, false}
use Rattle.tn_spec.specs.Variables.{mark_variables}
use Rattle.tn_spec.specs.Views.{head_seen}
use Rattle.tn_spec.proofs.VariableTable.{table_right}
use Rattle.tn_spec.proofs.variables.Variables.of.Goals.{in-Variable, in-Anything, in-List}
use Rattle.tn_spec.proofs.variables.Variables.of.Goals as goal

pub invariant_of-result : goal.invariant_of-result
invariant_of-result g c = record {
  right = elim c.match-head.branch [
    | in-Variable w ↦ table_right (head_seen c.args.head.now) c.match-head.table (replicate 1000 false) 1000 refl refl (w.table-is ∙ w.mark_one.ensures ∙ ap (λ h. mark_variables (head_seen h) (replicate 1000 false)) (sym w.in-Variable.is))
    | in-Anything w ↦ table_right (head_seen c.args.head.now) c.match-head.table (replicate 1000 false) 1000 refl refl (w.table-is ∙ ap (λ h. mark_variables (head_seen h) (replicate 1000 false)) (sym w.in-Anything.is))
    | in-List w ↦ table_right (head_seen c.args.head.now) c.match-head.table (replicate 1000 false) 1000 refl refl (w.table-is ∙ w.mark_all.ensures ∙ ap (λ h. mark_variables (head_seen h) (replicate 1000 false)) (sym w.in-List.is))
  ];
}
