use Rattle.std.proofs.Common.{◌≡◌, ◌++◌, ◌∷◌, [], List, map, length, arith, ap, sym, subst, ◌∙◌}
use Rattle.std.proofs.lemmas.List.{map-append}
use Rattle.def_alignment.specs.Alignments.{LineStep}
use Rattle.tn_alignment.specs.Tables.{line_texts, line_step_seen}
use Rattle.tn_alignment.proofs.CellSteps.{texts_length}
use Rattle.tn_alignment.proofs.Walks.{Walk, walk_begins, walk_goes_on, walk_ends}
use Rattle.tn_alignment.proofs.steps.steps_by.Goals as goal

pub loop-left-init : goal.loop-left-init
loop-left-init g c =
    let first = line_texts c.args.first.now in
    let second = line_texts c.args.second.now in
    subst (λ (s : List LineStep). Walk first second s (record { first = length c.args.first.now; second = length c.args.second.now })) (sym (ap (map line_step_seen) c.new-steps.ensures.items))
    (walk_begins first second (length c.args.first.now) (length c.args.second.now) (sym (texts_length c.args.first.now)) (sym (texts_length c.args.second.now)))

pub next_step-step-requires-clause-left : goal.next_step-step-requires-clause-left
next_step-step-requires-clause-left g c = c.loop-left.invariant.within

pub loop-left-preserved : goal.loop-left-preserved
loop-left-preserved g c =
    let first = line_texts c.args.first.now in
    let second = line_texts c.args.second.now in
    let step = c.next_step-step.result.0 in
    let items : map line_step_seen c.push.new.self.items ≡ map line_step_seen c.loop-left.steps.items ++ line_step_seen step ∷ [] =
    ap (map line_step_seen) c.in_ok-push.ensures.items ∙ map-append line_step_seen c.loop-left.steps.items (step ∷ []) in
    subst (λ (s : List LineStep). Walk first second s c.next_step-step.result.1) (sym items)
    (walk_goes_on first second (map line_step_seen c.loop-left.steps.items) c.loop-left.left (line_step_seen step) c.next_step-step.result.1 c.loop-left.invariant c.next_step-step.ensures)

pub returns : goal.returns
returns g c =
    walk_ends (line_texts c.args.first.now) (line_texts c.args.second.now) (map line_step_seen c.loop-left.steps.items) c.loop-left.left c.loop-left.invariant (omega arith) (omega arith)
