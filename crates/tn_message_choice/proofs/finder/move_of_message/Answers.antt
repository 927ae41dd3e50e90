use Rattle.std.proofs.Common.{◌∙◌, [], ap, ap₂}
use Rattle.def_run.specs.Run.{moves}
use Rattle.def_message_choice.specs.MessageNumbers.{move_after}
use Rattle.tn_program.specs.Views.{program_of}
use Rattle.tn_moves.specs.Plans.{plan_picks}
use Rattle.tn_message_choice.specs.declared.finder.MessageFinder.{MessageFinder}
use Rattle.tn_message_choice.proofs.FoundMoves.{asked_alike}
use Rattle.tn_message_choice.proofs.finder.move_of_message.Goals as goal

pub drive-requires : goal.drive-requires
drive-requires g c = record { start = c.in_ok-finder.ensures.found }

pub returns : goal.returns
returns g c =
    let p = program_of c.args.program.now in
    let picks = moves p (plan_picks p c.args.plan.now) in
    let run = c.in_ok-run.run' in
    let d = c.in_ok-run.ensures.driven in
    let finder = c.in_ok-finder.finder in
    let same = asked_alike p picks finder run.observer _ _ d.added in
    ap (λ (f : MessageFinder _). f.found) c.observer.ensures ∙ d.run.seen.found
    ∙ ap₂ (λ s k. move_after s.now k p [] picks) (same.0 ∙ c.in_ok-finder.ensures.session) (same.1 ∙ c.in_ok-finder.ensures.number)
