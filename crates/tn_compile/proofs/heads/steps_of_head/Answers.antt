use Rattle.std.proofs.Common.{◌+◌, ◌++◌, [], ◌∙◌, sym, ap, None}
use Rattle.def_machine.specs.Compilation.{registers_taken, variable_met, variables_after}
use Rattle.def_machine.specs.HeadFolds.{fold_head}
use Rattle.tn_code.specs.Views.{instructions_of}
use Rattle.tn_code.specs.declared.instr.Kind.TheVariants as kinds
use Rattle.tn_spec.specs.Views.{head_seen}
use Rattle.tn_compile.specs.Folds.{parts_folded}
use Rattle.tn_compile.specs.Heads.{pattern_steps}
use Rattle.tn_compile.specs.Views.{variables_seen}
use Rattle.tn_compile.specs.Walks.{steps_seen, walk_registers}
use Rattle.tn_compile.proofs.heads.steps_of_head.Goals.{in-Variable+in_ok-add_variable-in-Variable, in-Anything, in-List+in_ok-walk_parts-in-List}
use Rattle.tn_compile.proofs.heads.steps_of_head.Goals as goal

pub returns-clause-steps : goal.returns-clause-steps
returns-clause-steps g c =
    elim c.match-head.branch [
      | in-Variable+in_ok-add_variable-in-Variable w ↦ ap steps_seen w.made-is ∙ ap instructions_of c.new.ensures.items ∙ sym (ap (λ p. pattern_steps (fold_head p) [] 0 1) (ap head_seen w.in-Variable.is))
      | in-Anything w ↦ ap steps_seen w.made-is ∙ ap instructions_of c.new.ensures.items ∙ sym (ap (λ p. pattern_steps (fold_head p) [] 0 1) (ap head_seen w.in-Anything.is))
      | in-List+in_ok-walk_parts-in-List w ↦ ap steps_seen w.made-is ∙ w.in_ok-walk_parts-in-List.ensures.steps ∙ ap (λ is. instructions_of is ++ pattern_steps (parts_folded kinds.List w.in-List.patterns) (variables_seen c.new-2.result.items) 0 1) c.new.ensures.items ∙ ap (λ vs. pattern_steps (parts_folded kinds.List w.in-List.patterns) (variables_seen vs) 0 1) c.new-2.ensures.items ∙ sym (ap (λ p. pattern_steps (fold_head p) [] 0 1) (ap head_seen w.in-List.is))
    ]

pub returns-clause-variables : goal.returns-clause-variables
returns-clause-variables g c =
    elim c.match-head.branch [
      | in-Variable+in_ok-add_variable-in-Variable w ↦ ap walk_registers w.made-is ∙ w.in_ok-add_variable-in-Variable.ensures ∙ ap (λ vs. variable_met w.in-Variable.number 0 (variables_seen vs) None) c.new-2.ensures.items ∙ sym (ap (λ p. variables_after (fold_head p) [] 0 1) (ap head_seen w.in-Variable.is))
      | in-Anything w ↦ ap walk_registers w.made-is ∙ ap variables_seen c.new-2.ensures.items ∙ sym (ap (λ p. variables_after (fold_head p) [] 0 1) (ap head_seen w.in-Anything.is))
      | in-List+in_ok-walk_parts-in-List w ↦ ap walk_registers w.made-is ∙ w.in_ok-walk_parts-in-List.ensures.variables ∙ ap (λ vs. variables_after (parts_folded kinds.List w.in-List.patterns) (variables_seen vs) 0 1) c.new-2.ensures.items ∙ sym (ap (λ p. variables_after (fold_head p) [] 0 1) (ap head_seen w.in-List.is))
    ]

pub returns-clause-free : goal.returns-clause-free
returns-clause-free g c =
    elim c.match-head.branch [
      | in-Variable+in_ok-add_variable-in-Variable w ↦ ap (λ h. h.free) w.made-is ∙ sym (ap (λ p. 1 + registers_taken (fold_head p)) (ap head_seen w.in-Variable.is))
      | in-Anything w ↦ ap (λ h. h.free) w.made-is ∙ sym (ap (λ p. 1 + registers_taken (fold_head p)) (ap head_seen w.in-Anything.is))
      | in-List+in_ok-walk_parts-in-List w ↦ ap (λ h. h.free) w.made-is ∙ w.in_ok-walk_parts-in-List.ensures.free ∙ sym (ap (λ p. 1 + registers_taken (fold_head p)) (ap head_seen w.in-List.is))
    ]
