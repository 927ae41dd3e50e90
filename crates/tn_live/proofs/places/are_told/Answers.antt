use Rattle.std.proofs.Common.{◌∙◌, sym, ap, refl, arith, rules, map, Some}
use Rattle.std.proofs.lemmas.List.{take_all}
use Rattle.std.proofs.lemmas.Bool.{false≢true}
use Rattle.tn_trace.specs.Items.{item_seen}
use Rattle.tn_live.specs.Places.{reported_at}
use Rattle.tn_live.proofs.Answers.{told_one, told_next}
use Rattle.tn_live.proofs.places.are_told.Goals as goal

pub returns-then-not-is_told : goal.returns-then-not-is_told
returns-then-not-is_told g c = λ picks is. (
  λ h. absurd (false≢true h),
  λ all.
      absurd (false≢true
      ((c.if-not-is_told.ensures picks is).1
      (told_one (reported_at c.args.core.now.program picks) (λ x. Some (item_seen x)) c.args.places.now c.args.items.now c.loop-at.at _ c.index-items-at.result (omega arith) (omega arith) c.index-items-at.is all))),
)

pub loop-at-preserved : goal.loop-at-preserved
loop-at-preserved g c = λ picks is.
    told_next (reported_at c.args.core.now.program picks) (λ x. Some (item_seen x)) c.args.places.now c.args.items.now c.loop-at.at _ c.index-items-at.result (omega arith) (omega arith) c.index-items-at.is (c.loop-at.invariant picks is)
    ((c.is_told.ensures picks is).0 (search rules))

pub returns : goal.returns
returns g c = λ picks is. (
  λ _.
      ap (map (reported_at c.args.core.now.program picks)) (sym (take_all c.loop-at.at c.args.places.now (omega arith))) ∙ c.loop-at.invariant picks is
      ∙ ap (map (λ x. Some (item_seen x))) (take_all c.loop-at.at c.args.items.now (omega arith)),
  λ _. refl,
)
